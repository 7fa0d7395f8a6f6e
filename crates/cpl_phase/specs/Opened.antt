-- A component on a block as it is made: what it keeps, and its fields.
use Rattle.std.specs.Prelude.{◌≡◌, ℕ, ◌<◌, ℤ, pos, Bool, if◌then◌else◌, List, length, map, replicate, slice_get, Some}
use Rattle.std.specs.List.{All, range_with_len}
use Rattle.cpl_block.specs.Frames.{places_in}
use Rattle.cpl_block.specs.declared.frame.Frame.{Frame}
use Rattle.cpl_comp.specs.declared.component.Comp.{Comp}
use Rattle.cpl_comp.specs.declared.component.Phase.{Phase}
use Rattle.cpl_marks.specs.Plans.{IsPlanOf, IsPlanWithin}
use Rattle.cpl_marks.specs.declared.plan.StampPlan.{StampPlan}
use Rattle.cpl_mediator.specs.Averages.{RunningSums, no_sums}
use Rattle.cpl_rule.specs.Inputs.{AreFields, HaveNumbers}
use Rattle.cpl_sweep.specs.Places.{field_at}
use Rattle.cpl_phase.specs.Rooms.{is_kept_by}

-- how many sums the field of a place has
abbrev pub sums_held : Comp → ℕ → ℕ → ℕ
sums_held comp cells k = if is_kept_by comp k then cells else 0

-- sums of nothing for each field of a component
abbrev pub first_accums : Comp → ℕ → List RunningSums
first_accums comp cells = map (λ k. no_sums (sums_held comp cells k)) (range_with_len 0 (length comp.fields))

-- The fields of a block as they are made: 0 everywhere in the first so many, and behind them the numbers of the cells.
pub record AreFirstFields (frame : Frame) (count : ℕ) (fields : List (List ℤ)) : Type 0 where
  pub are : AreFields frame count fields
  pub numbers : HaveNumbers frame count fields
  pub zeros : (k : ℕ) → k < count → field_at fields k ≡ replicate (places_in frame) (pos 0)

-- Plans of the first so many phases of a component.
pub record ArePlansTo (comp : Comp) (connected : List Bool) (count : ℕ) (plans : List StampPlan) : Type 0 where
  pub number : length plans ≡ count
  pub each : (p : ℕ) (phase : Phase) (plan : StampPlan) → slice_get comp.phases p ≡ Some phase → slice_get plans p ≡ Some plan
      → IsPlanOf comp phase connected plan
  pub within : All (IsPlanWithin (length comp.fields)) plans

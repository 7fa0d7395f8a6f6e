-- An operation of a phase of a component on a block: what its calls ask, and the world behind it.
use Rattle.std.proofs.Common.{◌≡◌, ℕ, ◌+◌, ◌<◌, Bool, true, false, ◌||◌, ◌==◌, if◌then◌else◌, List, length, get_or, ℤ, Some, refl, sym, ap, subst, ◌∙◌, inl, inr}
use Rattle.std.proofs.Math.ListN.{get_or-map}
use Rattle.std.proofs.lemmas.Bool.{cases_Bool, eq-eqb}
use Rattle.std.proofs.lemmas.List.{length-map}
use Rattle.std.proofs.lemmas.List.Folds.{list_any_at}
use Rattle.std.proofs.lemmas.Option.{get_or_from_slice_get, slice_get_within as slice_get_below}
use Rattle.std.specs.List.{All, slice_get}
use Rattle.cpl_block.specs.declared.frame.Frame.{Frame}
use Rattle.cpl_comp.proofs.MarkFacts.{stamps-all_stamped}
use Rattle.cpl_comp.proofs.UnwrittenFacts.{values-unwritten}
use Rattle.cpl_comp.specs.Components.{added_fields, written_fields}
use Rattle.cpl_comp.specs.Marks.{marks_after_run, marks_of, stamps_at}
use Rattle.cpl_comp.specs.Readings.{Reading}
use Rattle.cpl_comp.specs.Turns.{Turn, all_stamped, is_among, stamped_exports, step_end, step_ended}
use Rattle.cpl_comp.specs.Worlds.{CompWorld, FieldWorld, field_at as world_at}
use Rattle.cpl_comp.specs.Writes.{fields_after}
use Rattle.cpl_comp.specs.declared.component.Comp.{Comp}
use Rattle.cpl_comp.specs.declared.component.Phase.{Phase}
use Rattle.cpl_comp.specs.declared.component.SetRow.{SetRow}
use Rattle.cpl_mediator.specs.Averages.{RunningSums}
use Rattle.cpl_sweep.specs.Places.{field_at}
use Rattle.cpl_phase.proofs.ListFacts.{not-among}
use Rattle.cpl_phase.proofs.StampedFacts.{held-stamped, kept-stamped, shown-stamped, values_at}
use Rattle.cpl_phase.specs.Kept.{StandForKept}
use Rattle.cpl_phase.specs.Locals.{comp_at_end}
use Rattle.cpl_phase.specs.Rooms.{is_kept_by, keeps_for}
use Rattle.cpl_phase.specs.Shown.{AreShownFor}
use Rattle.cpl_phase.specs.Worlds.{HoldFields, block_values}

-- ---- what a phase keeps

-- a phase of a component keeps for the fields of what it adds
pub added-kept : (comp : Comp) (p : ℕ) (phase : Phase) → slice_get comp.phases p ≡ Some phase
    → All (λ row. is_kept_by comp row.field ≡ true) phase.adds
added-kept comp p phase there = λ i d below.
    let k = (get_or phase.adds i d).field in
    let fields = added_fields phase in
    let inside : i < length fields = subst (λ n. i < n) (sym (length-map phase.adds (λ (row : SetRow). row.field))) below in
    let is : get_or fields i d.field ≡ k = get_or-map (λ (row : SetRow). row.field) phase.adds i d in
    let among : is_among fields k ≡ true = list_any_at (λ j. j == k) fields i d.field inside (eq-eqb (get_or fields i d.field) k is) in
    let keeps : keeps_for k phase ≡ true = ap (λ b. b || is_among phase.averages k) among in
    list_any_at (keeps_for k) comp.phases p phase (slice_get_below comp.phases p phase there)
    (ap (keeps_for k) (get_or_from_slice_get comp.phases p phase phase there) ∙ keeps)

-- ---- the end of a step

module _ (comp : Comp) (phase : Phase) (turn : Turn) (world : CompWorld) where
  ended_by : Bool → CompWorld
  ended_by last = if last then step_ended comp phase turn world else world

  ended-marks_by : (last : Bool) → marks_of (if last then step_ended comp phase turn world else world)
      ≡ (if last then record {
        clock = step_end comp.kind turn;
        runs = (marks_of world).runs + 1;
        stamps = stamps_at (step_end comp.kind turn) (marks_of world).stamps (stamped_exports comp.kind comp phase);
      } else marks_of world)
  ended-marks_by true = λ i. record {
    clock = step_end comp.kind turn;
    runs = world.runs + 1;
    stamps = stamps-all_stamped (step_end comp.kind turn) world.fields (stamped_exports comp.kind comp phase) i;
  }
  ended-marks_by false = refl

  -- clock, runs and stamps
  pub ended-marks : marks_of (comp_at_end comp phase turn world) ≡ marks_after_run comp phase turn (marks_of world)
  ended-marks = ended-marks_by turn.last

  ended_fields : (P : List FieldWorld → Type 0) → ((time : ℤ) (places : List ℕ) → P (all_stamped time world.fields places)) → P world.fields
      → (last : Bool) → P (if last then step_ended comp phase turn world else world).fields
  ended_fields P stamp stay true = stamp (step_end comp.kind turn) (stamped_exports comp.kind comp phase)
  ended_fields P stamp stay false = stay

  -- values, what is kept, and what is lined up
  pub ended-held : (frame : Frame) (count : ℕ) (now : List (List ℤ)) → HoldFields frame count world.fields now
      → HoldFields frame count (comp_at_end comp phase turn world).fields now
  ended-held frame count now held =
      ended_fields (λ fields. HoldFields frame count fields now)
      (λ time places. held-stamped time world.fields places frame count now held) held turn.last

  pub ended-kept : (frame : Frame) (count : ℕ) (accums : List RunningSums) → StandForKept frame count world.fields accums
      → StandForKept frame count (comp_at_end comp phase turn world).fields accums
  ended-kept frame count accums stand =
      ended_fields (λ fields. StandForKept frame count fields accums)
      (λ time places. kept-stamped time world.fields places frame count accums stand) stand turn.last

  pub ended-shown : (frame : Frame) (count : ℕ) (shown : List (List ℤ))
      → ((k : ℕ) → k < count → field_at shown k ≡ block_values frame (world_at world.fields k))
      → (k : ℕ) → k < count → field_at shown k ≡ block_values frame (world_at (comp_at_end comp phase turn world).fields k)
  ended-shown frame count shown each =
      ended_fields (λ fields. (k : ℕ) → k < count → field_at shown k ≡ block_values frame (world_at fields k))
      (λ time places. shown-stamped time world.fields places frame count shown each) each turn.last

-- ---- a phase

-- what is lined up after a phase
pub phase-shown : (frame : Frame) (count cells : ℕ) (reading : Reading) (world : List FieldWorld) (phase : Phase) (news old new : List (List ℤ))
    → HoldFields frame count (fields_after reading world phase) news → AreShownFor frame cells (written_fields phase) news old new
    → length old ≡ count
    → ((k : ℕ) → k < count → field_at old k ≡ block_values frame (world_at world k))
    → (k : ℕ) → k < count → field_at new k ≡ block_values frame (world_at (fields_after reading world phase) k)
phase-shown frame count cells reading world phase news old new held shown number each k below =
    elim (cases_Bool (is_among (written_fields phase) k)) [
      | inl among ↦ shown.fresh k (subst (λ n. k < n) (sym number) below) among ∙ held.values k below
      | inr none ↦
          shown.kept k none ∙ each k below
          ∙ ap (values_at frame) (sym (values-unwritten reading world phase k (not-among (written_fields phase) k none)))
    ]

-- What the world has of a component that a block stands for, field by field; and lists that grow by one.
use Rattle.std.proofs.Common.{◌≡◌, ◌≢◌, ℕ, ◌+◌, ◌<◌, List, [], ◌∷◌, ◌++◌, length, map, get_or, take, ℤ, Option, Some}
use Rattle.std.proofs.Common.{sym, ap, subst, ◌∙◌, arith, inl, inr}
use Rattle.std.specs.List.{All, range_with_len, slice_get}
use Rattle.std.proofs.lemmas.Bool.Decides.{eqb_tells}
use Rattle.std.proofs.lemmas.List.{get_or-map, get_or_default, map_more}
use Rattle.std.proofs.lemmas.List.Elements.{All-filter}
use Rattle.std.proofs.lemmas.List.FromFn.{get_or-range_with_len, length-range_with_len}
use Rattle.cpl_comp.specs.Marks.{CompMarks}
use Rattle.cpl_comp.specs.Turns.{has_role, places_of}
use Rattle.cpl_comp.specs.Worlds.{CompWorld, FieldWorld, field_at as world_at, no_field}
use Rattle.cpl_comp.specs.declared.component.Comp.{Comp}
use Rattle.cpl_comp.specs.declared.component.Role.{Role}
use Rattle.cpl_phase.specs.Locals.{StandsForComp}
use Rattle.cpl_phase.specs.declared.local.LocalComp.{LocalComp}
use Rattle.cpl_script.specs.SerialRun.{comp_stop}
use Rattle.cpl_script.specs.Transfers.{World, comp_at, no_comp}
use Rattle.cpl_script.specs.declared.outcome.CompEnd.{CompEnd}
use Rattle.cpl_serial.proofs.EngineFacts.{member-there}
use Rattle.cpl_serial.specs.Ended.{stop_after}
use Rattle.cpl_serial.specs.Whole.{HoldsWorld}

-- ---- a component that is stood for

module _ (comp : Comp) (local : LocalComp) (world : CompWorld) (stands : StandsForComp comp world local) where
  -- the stamp of a field
  pub stamp-at : (stamps : List (Option ℤ)) (k : ℕ) (d : Option ℤ) → k < length comp.fields → stamps ≡ local.marks.stamps
      → (world_at world.fields k).stamp ≡ get_or stamps k d
  stamp-at stamps k d below same =
      let inside : k < length world.fields = subst (λ n. k < n) (sym stands.values.number) below in
      sym (get_or-map (λ (field : FieldWorld). field.stamp) world.fields k no_field d inside)
      ∙ ap (λ (marks : CompMarks). get_or marks.stamps k d) stands.marks
      ∙ ap (λ (xs : List (Option ℤ)). get_or xs k d) (sym same)

  -- the values of a field
  pub holds-at : (k : ℕ) (field : List ℤ) → k < length comp.fields → k < length local.fields → field ≡ get_or local.fields k field
      → HoldsWorld local.frame field (world_at world.fields k)
  holds-at k field below inside is =
      subst (λ (values : List ℤ). HoldsWorld local.frame values (world_at world.fields k))
      (sym (is ∙ get_or_default local.fields k field [] inside)) (stands.values.values k below)

-- ---- lists

-- what a function makes of members, and of one more
pub made-more : {A B : Type 0} (f : A → B) (xs : List A) (k : ℕ) (d : A) (ys zs : List B) (y : B)
    → k < length xs → zs ≡ ys ++ y ∷ [] → y ≡ f (get_or xs k d)
    → ys ≡ map f (take k xs) → zs ≡ map f (take (k + 1) xs)
made-more f xs k d ys zs y below more is before =
    more ∙ (λ i. before i ++ is i ∷ []) ∙ sym (map_more f xs k d below)

-- ---- runs that had ended

-- one component more, before a fault of one of them
pub stops-more : (locals : List LocalComp) (world : World) (component runs c ended : ℕ) (stops new : List CompEnd) (stop : CompEnd)
    → length world ≡ length locals → (comp_at world component).runs ≡ runs
    → ((j : ℕ) (local : LocalComp) → j ≢ component → slice_get locals j ≡ Some local → (comp_at world j).runs ≡ local.marks.runs)
    → c < length locals
    → (c ≡ component → ended ≡ runs) → ((local : LocalComp) → c ≢ component → slice_get locals c ≡ Some local → ended ≡ local.marks.runs)
    → stop ≡ stop_after ended → new ≡ stops ++ stop ∷ [] → stops ≡ map comp_stop (take c world) → new ≡ map comp_stop (take (c + 1) world)
stops-more locals world component runs c ended stops new stop count here others below one other is more before =
    let inside : c < length world = subst (λ n. c < n) (sym count) below in
    let runs_are : ended ≡ (comp_at world c).runs = elim (eqb_tells c component) [
      | inl at ↦ one at.1 ∙ sym here ∙ ap (λ j. (comp_at world j).runs) (sym at.1)
      | inr off ↦
          let there = member-there locals c below in
          other there.member off.1 there.stands ∙ sym (others c there.member off.1 there.stands)
    ] in
    made-more comp_stop world c no_comp stops new stop inside more (is ∙ ap stop_after runs_are) before

-- ---- places

-- the places of the fields of a role are places of fields
pub places-below : (role : Role) (comp : Comp) → All (λ k. k < length comp.fields) (places_of role comp.fields)
places-below role comp =
    All-filter (has_role role comp.fields) (λ k. k < length comp.fields) (range_with_len 0 (length comp.fields))
    (λ i d inside.
    let count = length-range_with_len 0 (length comp.fields) in
    let below : i < length comp.fields = omega (arith, inside, count) in
    let is = get_or-range_with_len 0 (length comp.fields) i d below in
    omega (arith, is, below))

-- What is kept, as it is forgotten field by field.
use Rattle.std.proofs.Common.{◌≡◌, ◌++◌, ℕ, ◌+◌, ◌<◌, ◌≤◌, List, [], ◌∷◌, ℤ, fold, get_or, length, set, sym, ap, subst, take, ◌∙◌, inl, inr, arith}
use Rattle.std.proofs.lemmas.Bool.{cases_eq}
use Rattle.std.proofs.lemmas.List.{get_or-set_other, get_or-set_same, map-append, take_more}
use Rattle.std.proofs.lemmas.List.Sums.{fold-append}
use Rattle.cpl_block.specs.declared.frame.Frame.{Frame}
use Rattle.cpl_comp.proofs.ChangeFacts.{changed-here, changed-other, length-changed}
use Rattle.cpl_comp.specs.Worlds.{FieldWorld, changed, field_at as world_at, no_field}
use Rattle.cpl_comp.specs.Writes.{emptied}
use Rattle.cpl_mediator.specs.Averages.{RunningSums, StandsFor, no_sums}
use Rattle.cpl_phase.specs.Keeping.{StandsForBlock, kept_in, values_of_block}
use Rattle.cpl_phase.specs.Kept.{StandForKept, accum_at}

-- nothing is kept for one field any more
pub forgotten-one : (frame : Frame) (count : ℕ) (world : List FieldWorld) (accums : List RunningSums) (k : ℕ) (new : RunningSums) → k < length accums
    → StandsFor new [] → StandForKept frame count world accums → StandForKept frame count (emptied world k) (set accums k new)
forgotten-one frame count world accums k new there none before =
    let change : FieldWorld → FieldWorld = λ field. record field { kept = [] } in
    record {
      number = length-changed change k world ∙ before.number;
      each = λ i below. elim (cases_eq i k) [
        | inl same ↦
            let inside : k < length world = omega (arith, below, same, before.number) in
            let here : (world_at (changed change k world) k).kept ≡ [] =
            ap (λ (field : FieldWorld). field.kept) (changed-here change k world no_field inside) in
            let P : ℕ → Type 0 = λ n. StandsForBlock frame (accum_at (set accums k new) n) (world_at (changed change k world) n).kept in
            let Q : List (List ℤ) → Type 0 = λ kept. StandsForBlock frame new kept in
            let R : RunningSums → Type 0 = λ a. StandsForBlock frame a (world_at (changed change k world) k).kept in
            subst P (sym same) (subst R (sym (get_or-set_same accums k new (no_sums 0) there)) (subst Q (sym here) none))
        | inr other ↦
            let Q : FieldWorld → Type 0 = λ field. StandsForBlock frame (accum_at accums i) field.kept in
            let R : RunningSums → Type 0 = λ a. StandsForBlock frame a (world_at (changed change k world) i).kept in
            subst R (sym (get_or-set_other accums k i new (no_sums 0) other))
            (subst Q (sym (changed-other change k i world no_field other)) (before.each i below))
      ];
    }

-- one place more of a list
pub fold-more : {A B : Type 0} (f : B → A → B) (b : B) (xs : List A) (j : ℕ) (d : A) → j < length xs
    → fold f b (take (j + 1) xs) ≡ f (fold f b (take j xs)) (get_or xs j d)
fold-more f b xs j d inside =
    ap (fold f b) (take_more xs j d inside) ∙ fold-append f b (take j xs) (get_or xs j d ∷ [])

-- one more is kept for one field
pub kept-one : (frame : Frame) (count : ℕ) (world : List FieldWorld) (accums : List RunningSums) (k : ℕ) (values : List ℤ) (new : RunningSums)
    → k < length accums
    → ((kept : List (List ℤ)) → StandsFor (accum_at accums k) kept → StandsFor new (kept ++ values_of_block frame values ∷ []))
    → StandForKept frame count world accums
    → StandForKept frame count (changed (λ field. record field { kept = field.kept ++ values ∷ [] }) k world) (set accums k new)
kept-one frame count world accums k values new there more before =
    let change : FieldWorld → FieldWorld = λ field. record field { kept = field.kept ++ values ∷ [] } in
    record {
      number = length-changed change k world ∙ before.number;
      each = λ i below. elim (cases_eq i k) [
        | inl same ↦
            let inside : k < length world = omega (arith, below, same, before.number) in
            let few : k < count = omega (arith, below, same) in
            let field = world_at world k in
            let here : (world_at (changed change k world) k).kept ≡ field.kept ++ values ∷ [] =
            ap (λ (f : FieldWorld). f.kept) (changed-here change k world no_field inside) in
            let P : ℕ → Type 0 = λ n. StandsForBlock frame (accum_at (set accums k new) n) (world_at (changed change k world) n).kept in
            let Q : List (List ℤ) → Type 0 = λ kept. StandsFor new kept in
            let R : RunningSums → Type 0 = λ a. StandsForBlock frame a (world_at (changed change k world) k).kept in
            subst P (sym same) (subst R (sym (get_or-set_same accums k new (no_sums 0) there))
            (subst Q (sym (ap (kept_in frame) here ∙ map-append (values_of_block frame) field.kept (values ∷ [])))
            (more (kept_in frame field.kept) (before.each k few))))
        | inr other ↦
            let Q : FieldWorld → Type 0 = λ field. StandsForBlock frame (accum_at accums i) field.kept in
            let R : RunningSums → Type 0 = λ a. StandsForBlock frame a (world_at (changed change k world) i).kept in
            subst R (sym (get_or-set_other accums k i new (no_sums 0) other))
            (subst Q (sym (changed-other change k i world no_field other)) (before.each i below))
      ];
    }

-- what holds of the field that was, of the number of its sums and of its count
pub sums-set : (accums first : List RunningSums) (k : ℕ) (new : RunningSums) → k < length accums → length new.sums ≡ length (accum_at accums k).sums
    → ((i : ℕ) → length (accum_at accums i).sums ≡ length (accum_at first i).sums) → (i : ℕ)
    → length (accum_at (set accums k new) i).sums ≡ length (accum_at first i).sums
sums-set accums first k new there same before i = elim (cases_eq i k) [
  | inl is ↦
      ap (λ n. length (accum_at (set accums k new) n).sums) is
      ∙ ap (λ (a : RunningSums). length a.sums) (get_or-set_same accums k new (no_sums 0) there)
      ∙ same ∙ before k ∙ ap (λ n. length (accum_at first n).sums) (sym is)
  | inr other ↦ ap (λ (a : RunningSums). length a.sums) (get_or-set_other accums k i new (no_sums 0) other) ∙ before i
]

-- counts that were no more than before, with one that is none
pub count-set : (accums first : List RunningSums) (k : ℕ) (new : RunningSums) → k < length accums → new.count ≡ 0
    → ((i : ℕ) → (accum_at accums i).count ≤ (accum_at first i).count) → (i : ℕ) → (accum_at (set accums k new) i).count ≤ (accum_at first i).count
count-set accums first k new there none before i = elim (cases_eq i k) [
  | inl is ↦
      let here : (accum_at (set accums k new) i).count ≡ 0 =
      ap (λ n. (accum_at (set accums k new) n).count) is ∙ ap (λ (a : RunningSums). a.count) (get_or-set_same accums k new (no_sums 0) there)
      ∙ none in
      omega (arith, here)
  | inr other ↦
      let here : (accum_at (set accums k new) i).count ≡ (accum_at accums i).count =
      ap (λ (a : RunningSums). a.count) (get_or-set_other accums k i new (no_sums 0) other) in
      let was = before i in
      omega (arith, here, was)
]

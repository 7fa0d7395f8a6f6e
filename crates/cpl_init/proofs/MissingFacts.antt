-- How many producers that a component needs aren't among those before.
use Rattle.std.proofs.Common.{◌≡◌, ◌≢◌, ℕ, suc, ◌<◌, ◌≤◌, Bool, true, false, not, ◌&&◌, List, [], ◌∷◌, ◌++◌, length, filter, refl, sym, ap, ◌∙◌, inl, inr, arith}
use Rattle.std.proofs.lemmas.Bool.{and_from, and_left, and_right, cases_Bool, cases_eq, eq-eqb, ne_eqb, not_from_false, not_from_true}
use Rattle.std.specs.Prelude.{◌==◌}
use Rattle.std.specs.List.{range_with_len}
use Rattle.cpl_init.specs.Orders.{AreNeeds, has_number, is_needed, is_ready}
use Rattle.cpl_init.specs.Rounds.{missing_of}
use Rattle.cpl_init.specs.declared.needs.Needs.{Needs}
use Rattle.cpl_init.proofs.NeedFacts.{has_number-pushed, has_number-pushed_other, has_number-some, is_needed-listed, is_needed-pushed, is_needed-pushed_other, is_ready-has, is_ready-misses}
use Rattle.cpl_init.proofs.RangeFacts.{filter-range_same, has_number-filter_range, length-filter_none, length-filter_one_more, length-filter_range}

-- whether a component needs a producer that isn't among those before
is_missing : List Needs → List ℕ → ℕ → ℕ → Bool
is_missing needs before c p = is_needed needs c p && not (has_number before p)

-- these are counted
missing_of-is : (count : ℕ) (needs : List Needs) (before : List ℕ) (c : ℕ) → missing_of count needs before c ≡ length (filter (is_missing needs before c) (range_with_len 0 count))
unfolding missing_of is_missing
missing_of-is count needs before c = refl

-- at most all components
pub missing_of-le : (count : ℕ) (needs : List Needs) (before : List ℕ) (c : ℕ) → missing_of count needs before c ≤ count
missing_of-le count needs before c =
    rw (missing_of-is count needs before c) (length-filter_range (is_missing needs before c) 0 count)

-- a ready component misses none
missing_of-ready : (count : ℕ) (needs : List Needs) (before : List ℕ) (c : ℕ) → is_ready needs before c ≡ true → missing_of count needs before c ≡ 0
unfolding is_missing
missing_of-ready count needs before c ready =
    missing_of-is count needs before c
    ∙ length-filter_none (is_missing needs before c) 0 count (λ p from to. elim (cases_Bool (is_needed needs c p)) [
      | inl needed ↦ and_right _ _ (not_from_true _ (is_ready-has needs before c p ready needed))
      | inr other ↦ and_left _ _ other
    ])

-- another one misses some
missing_of-unready : (count : ℕ) (needs : List Needs) (before : List ℕ) (c : ℕ) → AreNeeds count needs → is_ready needs before c ≡ false → 0 < missing_of count needs before c
unfolding is_missing
missing_of-unready count needs before c listed unready =
    let missing = is_ready-misses needs before c unready in
    let p = missing.0 in
    let within = is_needed-listed count needs c p listed missing.1.needed in
    let passes : is_missing needs before c p ≡ true = and_from _ _ missing.1.needed (not_from_false _ missing.1.behind) in
    let has = has_number-filter_range (is_missing needs before c) 0 count p (omega arith) (omega arith) passes in
    rw (missing_of-is count needs before c) (has_number-some _ p has)

-- so a component is ready where it misses none
pub is_ready-missing : (count : ℕ) (needs : List Needs) (before : List ℕ) (c : ℕ) → AreNeeds count needs → is_ready needs before c ≡ (missing_of count needs before c == 0)
is_ready-missing count needs before c listed = elim (cases_Bool (is_ready needs before c)) [
  | inl ready ↦ ready ∙ sym (eq-eqb _ _ (missing_of-ready count needs before c ready))
  | inr unready ↦
      let some = missing_of-unready count needs before c listed unready in
      unready ∙ sym (ne_eqb _ _ (λ none. omega arith))
]

-- a component that needs a newcomer misses one less behind it
pub missing_of-placed : (count : ℕ) (needs : List Needs) (before : List ℕ) (c k : ℕ) → k < count → has_number before k ≡ false → is_needed needs c k ≡ true → missing_of count needs before c ≡ suc (missing_of count needs (before ++ k ∷ []) c)
unfolding is_missing
missing_of-placed count needs before c k within new needed =
    let after = before ++ k ∷ [] in
    let gone : is_missing needs after c k ≡ false = and_right _ _ (not_from_true _ (has_number-pushed before k)) in
    let there : is_missing needs before c k ≡ true = and_from _ _ needed (not_from_false _ new) in
    let same : (j : ℕ) → j ≢ k → is_missing needs after c j ≡ is_missing needs before c j = λ j other. ap (λ b. is_needed needs c j && not b) (has_number-pushed_other before k j other) in
    missing_of-is count needs before c
    ∙ length-filter_one_more (is_missing needs after c) (is_missing needs before c) k 0 count (omega arith) (omega arith) gone there same
    ∙ ap (λ (n : ℕ). suc n) (sym (missing_of-is count needs after c))

-- one that doesn't need it misses as many
pub missing_of-unneeded : (count : ℕ) (needs : List Needs) (before : List ℕ) (c k : ℕ) → is_needed needs c k ≡ false → missing_of count needs (before ++ k ∷ []) c ≡ missing_of count needs before c
unfolding is_missing
missing_of-unneeded count needs before c k unneeded =
    let after = before ++ k ∷ [] in
    missing_of-is count needs after c
    ∙ ap (λ (xs : List ℕ). length xs) (filter-range_same (is_missing needs after c) (is_missing needs before c) 0 count (λ j from to. elim (cases_eq j k) [
      | inl is ↦
          let none : is_needed needs c j ≡ false = ap (is_needed needs c) is ∙ unneeded in
          and_left _ _ none ∙ sym (and_left _ _ none)
      | inr other ↦ ap (λ b. is_needed needs c j && not b) (has_number-pushed_other before k j other)
    ]))
    ∙ sym (missing_of-is count needs before c)

-- rows that say the same of a component give the same count
pub missing_of-same : (count : ℕ) (needs more : List Needs) (before : List ℕ) (c : ℕ) → ((p : ℕ) → is_needed more c p ≡ is_needed needs c p) → missing_of count more before c ≡ missing_of count needs before c
unfolding is_missing
missing_of-same count needs more before c same =
    missing_of-is count more before c
    ∙ ap (λ (xs : List ℕ). length xs) (filter-range_same (is_missing more before c) (is_missing needs before c) 0 count (λ j from to. ap (λ b. b && not (has_number before j)) (same j)))
    ∙ sym (missing_of-is count needs before c)

-- a new row lets its component miss one more, where nobody is before
pub missing_of-added : (count : ℕ) (needs : List Needs) (row : Needs) → row.producer < count → is_needed needs row.component row.producer ≡ false → missing_of count (needs ++ row ∷ []) [] row.component ≡ suc (missing_of count needs [] row.component)
unfolding is_missing
missing_of-added count needs row within new =
    let more = needs ++ row ∷ [] in
    let c = row.component in
    let k = row.producer in
    let not_yet : is_missing needs [] c k ≡ false = and_left _ _ new in
    let there : is_missing more [] c k ≡ true = and_from _ _ (is_needed-pushed needs row) refl in
    let same : (j : ℕ) → j ≢ k → is_missing needs [] c j ≡ is_missing more [] c j = λ j other. ap (λ b. b && true) (sym (is_needed-pushed_other needs row c j (λ _ is. other (sym is)))) in
    missing_of-is count more [] c
    ∙ length-filter_one_more (is_missing needs [] c) (is_missing more [] c) k 0 count (omega arith) (omega arith) not_yet there same
    ∙ ap (λ (n : ℕ). suc n) (sym (missing_of-is count needs [] c))

-- where no rows are none is missed
pub missing_of-none : (count c : ℕ) → missing_of count [] [] c ≡ 0
missing_of-none count c = missing_of-ready count [] [] c refl

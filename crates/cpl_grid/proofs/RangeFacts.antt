-- Lists of numbers that follow one another, and what a filter keeps of them.
use Rattle.std.proofs.Common.{◌≡◌, ℕ, zero, suc, ◌+◌, ◌<◌, ◌≤◌, Bool, true, false, List, [], ◌∷◌, ◌++◌, filter, sum_by, Some, refl, sym, ap, subst, ◌∙◌, inl, inr, arith}
use Rattle.std.specs.Prelude.{slice_get}
use Rattle.std.specs.List.{All, range_with_len}
use Rattle.std.proofs.lemmas.Bool.{cases_Bool}
use Rattle.std.proofs.lemmas.List.Elements.{All-filter, All-from_get_or, filter-append, filter_passes}
use Rattle.std.proofs.lemmas.List.FromFn.{get_or-range_with_len, length-range_with_len}
use Rattle.std.proofs.lemmas.List.Sums.{sum_by_push}
use Rattle.std.proofs.lemmas.Option.{get_or_from_slice_get, none-some, slice_get_within}

-- two runs, one behind the other, are one
pub range-append : (a m n : ℕ) → range_with_len a (m + n) ≡ range_with_len a m ++ range_with_len (a + m) n
range-append a zero n =
    ap (λ k. range_with_len a k) (omega arith) ∙ ap (λ k. range_with_len k n) (omega arith)
range-append a (suc m) n =
    let longer : suc m + n ≡ suc (m + n) = omega arith in
    let further : a + 1 + m ≡ a + suc m = omega arith in
    ap (range_with_len a) longer ∙ ap (λ xs. a ∷ xs) (range-append (a + 1) m n ∙ ap (λ k. range_with_len (a + 1) m ++ range_with_len k n) further)

-- a run with one number more
pub range-suc : (a n : ℕ) → range_with_len a (suc n) ≡ range_with_len a n ++ (a + n) ∷ []
range-suc a n =
    let longer : suc n ≡ n + 1 = omega arith in
    ap (range_with_len a) longer ∙ range-append a n 1

-- a sum over one number more
pub sum_by-range_suc : (f : ℕ → ℕ) (a n : ℕ) → sum_by f (range_with_len a (suc n)) ≡ sum_by f (range_with_len a n) + f (a + n)
sum_by-range_suc f a n = ap (sum_by f) (range-suc a n) ∙ sum_by_push f (range_with_len a n) (a + n)

-- a number of a run, by its place
pub slice_get-range : (a n i : ℕ) → i < n → slice_get (range_with_len a n) i ≡ Some (a + i)
slice_get-range a zero i inside = absurd (omega arith)
slice_get-range a (suc n) zero inside = ap Some (omega arith)
slice_get-range a (suc n) (suc i) inside =
    slice_get-range (a + 1) n i (omega arith) ∙ ap Some (omega arith)

-- what holds of each number of a run
pub All-range : (P : ℕ → Type 0) (a n : ℕ) → ((s : ℕ) → a ≤ s → s < a + n → P s) → All P (range_with_len a n)
All-range P a n each =
    All-from_get_or P (range_with_len a n) 0 (λ i inside.
    let below : i < n = rw length-range_with_len at inside in
    rw (get_or-range_with_len a n i 0 below) (each (a + i) (omega arith) (omega arith)))

-- what a filter keeps of two runs, one behind the other
pub filter-range_append : (p : ℕ → Bool) (a m n : ℕ) → filter p (range_with_len a (m + n)) ≡ filter p (range_with_len a m) ++ filter p (range_with_len (a + m) n)
filter-range_append p a m n =
    ap (filter p) (range-append a m n) ∙ filter-append p (range_with_len a m) (range_with_len (a + m) n)

-- a run of which none passes
pub filter-range_none : (p : ℕ → Bool) (a n : ℕ) → ((s : ℕ) → a ≤ s → s < a + n → p s ≡ false) → filter p (range_with_len a n) ≡ []
filter-range_none p a zero fail = refl
filter-range_none p a (suc n) fail =
    rw (fail a (omega arith) (omega arith)) (filter-range_none p (a + 1) n (λ s from to. fail s (omega arith) (omega arith)))

-- a run of which all pass
pub filter-range_all : (p : ℕ → Bool) (a n : ℕ) → ((s : ℕ) → a ≤ s → s < a + n → p s ≡ true) → filter p (range_with_len a n) ≡ range_with_len a n
filter-range_all p a zero pass = refl
filter-range_all p a (suc n) pass =
    rw (pass a (omega arith) (omega arith)) (ap (λ xs. a ∷ xs) (filter-range_all p (a + 1) n (λ s from to. pass s (omega arith) (omega arith))))

-- what a filter kept passes
pub kept_passes : (p : ℕ → Bool) (xs : List ℕ) (k s : ℕ) → slice_get (filter p xs) k ≡ Some s → p s ≡ true
kept_passes p xs k s is =
    let passes = filter_passes p xs k s (slice_get_within (filter p xs) k s is) in
    rw (get_or_from_slice_get (filter p xs) k s s is) at passes

-- what a filter kept was there
pub kept_within : (p : ℕ → Bool) (a n k s : ℕ) → slice_get (filter p (range_with_len a n)) k ≡ Some s → (a ≤ s) × (s < a + n)
kept_within p a n k s is =
    let P : ℕ → Type 0 = λ t. (a ≤ t) × (t < a + n) in
    let all : All P (filter p (range_with_len a n)) = All-filter p P (range_with_len a n) (All-range P a n (λ t from to. (from, to))) in
    subst P (get_or_from_slice_get (filter p (range_with_len a n)) k s s is) (all k s (slice_get_within (filter p (range_with_len a n)) k s is))

-- a head that doesn't come again has one place, and so have the others
once_more : (a : ℕ) (xs : List ℕ) (k l s : ℕ) → ((j : ℕ) → slice_get xs j ≡ Some a → ⊥) → ((i j : ℕ) → slice_get xs i ≡ Some s → slice_get xs j ≡ Some s → i ≡ j) → slice_get (a ∷ xs) k ≡ Some s → slice_get (a ∷ xs) l ≡ Some s → k ≡ l
once_more a xs zero zero s new rest at_k at_l = refl
once_more a xs zero (suc l) s new rest at_k at_l = absurd (new l (at_l ∙ sym at_k))
once_more a xs (suc k) zero s new rest at_k at_l = absurd (new k (at_k ∙ sym at_l))
once_more a xs (suc k) (suc l) s new rest at_k at_l = ap (λ j. suc j) (rest k l at_k at_l)

-- a number is kept at one place
pub kept_once : (p : ℕ → Bool) (a n k l s : ℕ) → slice_get (filter p (range_with_len a n)) k ≡ Some s → slice_get (filter p (range_with_len a n)) l ≡ Some s → k ≡ l
kept_once p a zero k l s at_k at_l = absurd (none-some s at_k)
kept_once p a (suc n) k l s at_k at_l = elim (cases_Bool (p a)) [
  | inl passes ↦
      let new : (j : ℕ) → slice_get (filter p (range_with_len (a + 1) n)) j ≡ Some a → ⊥ = λ j is. let within = kept_within p (a + 1) n j a is in omega arith in
      once_more a (filter p (range_with_len (a + 1) n)) k l s new (λ i j. kept_once p (a + 1) n i j s) (rw passes at at_k) (rw passes at at_l)
  | inr fails ↦ kept_once p (a + 1) n k l s (rw fails at at_k) (rw fails at at_l)
]

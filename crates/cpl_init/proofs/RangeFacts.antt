-- Numbers that follow one another: what a filter keeps of them, and which passes a test first.
use Rattle.std.proofs.Common.{◌≡◌, ◌≢◌, ℕ, zero, suc, ◌+◌, ◌<◌, ◌≤◌, Bool, true, false, cond, List, [], ◌∷◌, ◌++◌, length, filter, Some, None, refl, sym, ap, ◌∙◌, inl, inr, arith}
use Rattle.std.specs.List.{All, find, range_with_len}
use Rattle.std.specs.List.Sorted.{IsStrictlyIncreasing}
use Rattle.std.proofs.lemmas.Bool.{cases_Bool, cases_eq, eq-eqb, eqb-true, or_cases, or_right}
use Rattle.std.proofs.lemmas.List.{append-nil}
use Rattle.std.proofs.lemmas.List.Elements.{All-filter, All-from_get_or}
use Rattle.std.proofs.lemmas.List.FromFn.{get_or-range_with_len, length-range_with_len}
use Rattle.std.specs.Prelude.{◌==◌}
use Rattle.cpl_init.specs.Orders.{has_number}

-- tests that agree on a run keep the same of it
pub filter-range_same : (p q : ℕ → Bool) (a n : ℕ) → ((j : ℕ) → a ≤ j → j < a + n → p j ≡ q j) → filter p (range_with_len a n) ≡ filter q (range_with_len a n)
filter-range_same p q a zero same = refl
filter-range_same p q a (suc n) same =
    let here : p a ≡ q a = same a (omega arith) (omega arith) in
    let rest = filter-range_same p q (a + 1) n (λ j from to. same j (omega arith) (omega arith)) in
    rw (here, rest) refl

-- and find the same first
pub find-range_same : (p q : ℕ → Bool) (a n : ℕ) → ((j : ℕ) → a ≤ j → j < a + n → p j ≡ q j) → find p (range_with_len a n) ≡ find q (range_with_len a n)
find-range_same p q a zero same = refl
find-range_same p q a (suc n) same =
    let here : p a ≡ q a = same a (omega arith) (omega arith) in
    let rest = find-range_same p q (a + 1) n (λ j from to. same j (omega arith) (omega arith)) in
    rw (here, rest) refl

-- a test that one number more passes keeps one more
pub length-filter_one_more : (p q : ℕ → Bool) (k a n : ℕ) → a ≤ k → k < a + n → p k ≡ false → q k ≡ true → ((j : ℕ) → j ≢ k → p j ≡ q j) → length (filter q (range_with_len a n)) ≡ suc (length (filter p (range_with_len a n)))
length-filter_one_more p q k a zero from to fails passes same = absurd (omega arith)
length-filter_one_more p q k a (suc n) from to fails passes same = elim (cases_eq a k) [
  | inl here ↦
      let p_here : p a ≡ false = ap p here ∙ fails in
      let q_here : q a ≡ true = ap q here ∙ passes in
      let rest = filter-range_same p q (a + 1) n (λ j after within. same j (λ is. omega arith)) in
      rw (p_here, q_here, rest) refl
  | inr other ↦
      let here : p a ≡ q a = same a other in
      let rest = length-filter_one_more p q k (a + 1) n (omega (arith, other)) (omega arith) fails passes same in
      elim (cases_Bool (q a)) [
        | inl kept ↦ rw (here, kept) (ap (λ (m : ℕ). suc m) rest)
        | inr left ↦ rw (here, left) rest
      ]
]

-- the first that passes is found
pub find-range_first : (p : ℕ → Bool) (a n k : ℕ) → a ≤ k → k < a + n → p k ≡ true → ((j : ℕ) → a ≤ j → j < k → p j ≡ false) → find p (range_with_len a n) ≡ Some k
find-range_first p a zero k from to passes before = absurd (omega arith)
find-range_first p a (suc n) k from to passes before = elim (cases_eq a k) [
  | inl here ↦ rw (ap p here ∙ passes) (ap Some here)
  | inr other ↦
      let ahead : a < k = omega (arith, other) in
      rw (before a (omega arith) ahead) (find-range_first p (a + 1) n k (omega arith) (omega arith) passes (λ j after below. before j (omega arith) below))
]

-- nothing is found where none passes
pub find-range_none : (p : ℕ → Bool) (a n : ℕ) → ((j : ℕ) → a ≤ j → j < a + n → p j ≡ false) → find p (range_with_len a n) ≡ None
find-range_none p a zero fails = refl
find-range_none p a (suc n) fails =
    rw (fails a (omega arith) (omega arith)) (find-range_none p (a + 1) n (λ j after within. fails j (omega arith) (omega arith)))

-- none passes where nothing is found
pub find-range_fails : (p : ℕ → Bool) (a n j : ℕ) → find p (range_with_len a n) ≡ None → a ≤ j → j < a + n → p j ≡ false
find-range_fails p a zero j none from to = absurd (omega arith)
find-range_fails p a (suc n) j none from to = elim (cases_Bool (p a)) [
  | inl kept ↦ let found = rw kept at none in absurd (cc)
  | inr left ↦
      let rest = rw left at none in
      elim (cases_eq a j) [
        | inl here ↦ ap p (sym here) ∙ left
        | inr other ↦ find-range_fails p (a + 1) n j rest (omega (arith, other)) (omega arith)
      ]
]

-- a number that was found is one of the run and passes
pub find-range_passes : (p : ℕ → Bool) (a n k : ℕ) → find p (range_with_len a n) ≡ Some k → (a ≤ k) × (k < a + n) × (p k ≡ true)
find-range_passes p a zero k found = absurd (cc)
find-range_passes p a (suc n) k found = elim (cases_Bool (p a)) [
  | inl kept ↦
      let here : a ≡ k = let is = rw kept at found in cc in
      (omega arith, omega arith, ap p (sym here) ∙ kept)
  | inr left ↦
      let rest = find-range_passes p (a + 1) n k (rw left at found) in
      (omega arith, omega arith, rest.2)
]

-- a number of a run that passes is kept
pub has_number-filter_range : (p : ℕ → Bool) (a n c : ℕ) → a ≤ c → c < a + n → p c ≡ true → has_number (filter p (range_with_len a n)) c ≡ true
has_number-filter_range p a zero c from to passes = absurd (omega arith)
has_number-filter_range p a (suc n) c from to passes = elim (cases_eq a c) [
  | inl here ↦
      let p_here : p a ≡ true = ap p here ∙ passes in
      rw (p_here, eq-eqb a c here) refl
  | inr other ↦
      let rest = has_number-filter_range p (a + 1) n c (omega (arith, other)) (omega arith) passes in
      elim (cases_Bool (p a)) [
        | inl kept ↦ rw kept (or_right _ _ rest)
        | inr left ↦ rw left rest
      ]
]

-- a number that is kept is one of the run and passes
pub filter_range-passes : (p : ℕ → Bool) (a n c : ℕ) → has_number (filter p (range_with_len a n)) c ≡ true → (a ≤ c) × (c < a + n) × (p c ≡ true)
filter_range-passes p a zero c has = absurd (cc)
filter_range-passes p a (suc n) c has = elim (cases_Bool (p a)) [
  | inl kept ↦
      let either = rw kept at has in
      elim (or_cases (a == c) (has_number (filter p (range_with_len (a + 1) n)) c) either) [
        | inl is ↦
            let here = eqb-true a c is in
            (omega arith, omega arith, ap p (sym here) ∙ kept)
        | inr later ↦
            let rest = filter_range-passes p (a + 1) n c later in
            (omega arith, omega arith, rest.2)
      ]
  | inr left ↦
      let rest = filter_range-passes p (a + 1) n c (rw left at has) in
      (omega arith, omega arith, rest.2)
]

-- what holds of each number of a run
All-range : (P : ℕ → Type 0) (a n : ℕ) → ((s : ℕ) → a ≤ s → s < a + n → P s) → All P (range_with_len a n)
All-range P a n each =
    All-from_get_or P (range_with_len a n) 0 (λ i inside.
    let below : i < n = rw length-range_with_len at inside in
    rw (get_or-range_with_len a n i 0 below) (each (a + i) (omega arith) (omega arith)))

-- a number in front of higher ones that ascend
ascending-front : (a : ℕ) (xs : List ℕ) → All (λ x. a < x) xs → IsStrictlyIncreasing xs → IsStrictlyIncreasing (a ∷ xs)
ascending-front a xs above rising zero inside = above 0 0 (omega arith)
ascending-front a xs above rising (suc k) inside =
    let next : suc k + 1 ≡ suc (k + 1) = omega arith in
    rw next (rising k (omega arith))

-- what a filter keeps of a run ascends
pub filter_range-ascends : (p : ℕ → Bool) (a n : ℕ) → IsStrictlyIncreasing (filter p (range_with_len a n))
filter_range-ascends p a zero = λ k inside. absurd (omega arith)
filter_range-ascends p a (suc n) = elim (cases_Bool (p a)) [
  | inl kept ↦
      let above : All (λ x. a < x) (filter p (range_with_len (a + 1) n)) = All-filter p (λ x. a < x) (range_with_len (a + 1) n) (All-range (λ x. a < x) (a + 1) n (λ s from to. omega arith)) in
      rw kept (ascending-front a (filter p (range_with_len (a + 1) n)) above (filter_range-ascends p (a + 1) n))
  | inr left ↦ rw left (filter_range-ascends p (a + 1) n)
]

-- a filter keeps at most as many as there are
pub length-filter_range : (p : ℕ → Bool) (a n : ℕ) → length (filter p (range_with_len a n)) ≤ n
length-filter_range p a zero = omega arith
length-filter_range p a (suc n) =
    let rest = length-filter_range p (a + 1) n in
    elim (cases_Bool (p a)) [
      | inl kept ↦ rw kept (omega arith)
      | inr left ↦ rw left (omega arith)
    ]

-- where none passes none is kept
pub length-filter_none : (p : ℕ → Bool) (a n : ℕ) → ((j : ℕ) → a ≤ j → j < a + n → p j ≡ false) → length (filter p (range_with_len a n)) ≡ 0
length-filter_none p a zero fails = refl
length-filter_none p a (suc n) fails =
    rw (fails a (omega arith) (omega arith)) (length-filter_none p (a + 1) n (λ j after within. fails j (omega arith) (omega arith)))

-- where all pass all are kept
pub length-filter_all : (p : ℕ → Bool) (a n : ℕ) → ((j : ℕ) → p j ≡ true) → length (filter p (range_with_len a n)) ≡ n
length-filter_all p a zero passes = refl
length-filter_all p a (suc n) passes =
    let rest = length-filter_all p (a + 1) n passes in
    rw (passes a) (ap (λ (m : ℕ). suc m) rest)

-- what is kept of one number more
filter-range_more : (p : ℕ → Bool) (a n k : ℕ) → a + n ≡ k → filter p (range_with_len a (suc n)) ≡ filter p (range_with_len a n) ++ cond (p k) (k ∷ []) []
filter-range_more p a zero k is =
    let here : a ≡ k = omega arith in
    ap (λ j. cond (p j) (j ∷ []) []) here
filter-range_more p a (suc n) k is =
    let rest = filter-range_more p (a + 1) n k (omega arith) in
    elim (cases_Bool (p a)) [
      | inl kept ↦ rw kept (ap (λ (xs : List ℕ). a ∷ xs) rest)
      | inr left ↦ rw left rest
    ]

-- a number more that is kept
pub filter-range_kept : (p : ℕ → Bool) (k : ℕ) → p k ≡ true → filter p (range_with_len 0 (k + 1)) ≡ filter p (range_with_len 0 k) ++ k ∷ []
filter-range_kept p k kept =
    let more : k + 1 ≡ suc k = omega arith in
    ap (λ n. filter p (range_with_len 0 n)) more ∙ filter-range_more p 0 k k (omega arith) ∙ ap (λ b. filter p (range_with_len 0 k) ++ cond b (k ∷ []) []) kept

-- and one that isn't
pub filter-range_left : (p : ℕ → Bool) (k : ℕ) → p k ≡ false → filter p (range_with_len 0 (k + 1)) ≡ filter p (range_with_len 0 k)
filter-range_left p k left =
    let more : k + 1 ≡ suc k = omega arith in
    ap (λ n. filter p (range_with_len 0 n)) more ∙ filter-range_more p 0 k k (omega arith) ∙ ap (λ b. filter p (range_with_len 0 k) ++ cond b (k ∷ []) []) left ∙ append-nil (filter p (range_with_len 0 k))

-- What is found in lists, and in ranges of numbers.
use Rattle.std.proofs.Common.{◌≡◌, ℕ, zero, suc, ◌+◌, ◌<◌, ◌≤◌, Bool, true, false, ◌==◌, ◌&&◌, ◌||◌, inl, inr, List, [], ◌∷◌, ◌++◌, refl, ap, ◌∙◌, arith}
use Rattle.std.proofs.lemmas.Bool.{cases_eq, eq-eqb, ne_eqb}
use Rattle.std.proofs.lemmas.List.Folds.{list_any-append}
use Rattle.std.specs.List.{AllByRecursion, list_any, range_with_len}
use Rattle.cpl_dict.specs.Numbers.{has_number}

-- one number more behind others
range_with_len-suc : (a n : ℕ) → range_with_len a (suc n) ≡ range_with_len a n ++ (a + n) ∷ []
range_with_len-suc a zero = let same : a ≡ a + 0 = omega arith in ap (λ k. k ∷ []) same
range_with_len-suc a (suc n) =
    let same : (a + 1) + n ≡ a + suc n = omega arith in
    ap (λ (ks : List ℕ). a ∷ ks) (range_with_len-suc (a + 1) n ∙ ap (λ k. range_with_len (a + 1) n ++ k ∷ []) same)

-- one number more behind those from 0
range_with_len-next : (k : ℕ) → range_with_len 0 (k + 1) ≡ range_with_len 0 k ++ k ∷ []
range_with_len-next k =
    let same : 0 + k ≡ k = omega arith in
    let next : k + 1 ≡ suc k = omega arith in
    ap (range_with_len 0) next ∙ range_with_len-suc 0 k ∙ ap (λ j. range_with_len 0 k ++ j ∷ []) same

-- nothing else
pub or-false : (b : Bool) → (b || false) ≡ b
or-false true = refl
or-false false = refl

-- whether a test holds of one number more
pub list_any-next : (p : ℕ → Bool) (k : ℕ) → list_any p (range_with_len 0 (k + 1)) ≡ (list_any p (range_with_len 0 k) || p k)
list_any-next p k =
    ap (list_any p) (range_with_len-next k) ∙ list_any-append p (range_with_len 0 k) (k ∷ []) ∙ ap (λ b. list_any p (range_with_len 0 k) || b) (or-false (p k))

-- two tests that agree within a range
list_any-agree : (p q : ℕ → Bool) (a n m : ℕ) → a + n ≡ m → ((k : ℕ) → k < m → p k ≡ q k) → list_any p (range_with_len a n) ≡ list_any q (range_with_len a n)
list_any-agree p q a zero m ends agree = refl
list_any-agree p q a (suc n) m ends agree =
    λ i. agree a (omega arith) i || list_any-agree p q (a + 1) n m (omega arith) agree i

-- a number below a range isn't in it
list_any-below : (q : ℕ → Bool) (x a n : ℕ) → x < a → list_any (λ k. x == k && q k) (range_with_len a n) ≡ false
list_any-below q x a zero below = refl
list_any-below q x a (suc n) below =
    rw (ne_eqb x a (λ e. omega arith)) (list_any-below q x (a + 1) n (omega arith))

-- one of two that is there
or-found : (b c : Bool) → c ≡ false → (b || c) ≡ b
or-found true c none = refl
or-found false c none = none

-- a test of one number of a range
list_any-one : (q : ℕ → Bool) (x a n : ℕ) → a ≤ x → x < a + n → list_any (λ k. x == k && q k) (range_with_len a n) ≡ q x
list_any-one q x a zero from to = absurd (omega arith)
list_any-one q x a (suc n) from to =
    elim (cases_eq x a) [
      | inl same ↦ rw (eq-eqb x a same, ← same) (or-found (q x) (list_any (λ k. x == k && q k) (range_with_len (x + 1) n)) (list_any-below q x (x + 1) n (omega arith)))
      | inr other ↦ rw (ne_eqb x a other) (list_any-one q x (a + 1) n (omega arith) (omega arith))
    ]

-- one test or another, over a list
list_any-either : (p q : ℕ → Bool) (xs : List ℕ) → list_any (λ k. p k || q k) xs ≡ (list_any p xs || list_any q xs)
list_any-either p q [] = refl
list_any-either p q (x ∷ xs) = step (p x) (q x) (list_any-either p q xs)
  where
    step : (a b : Bool) → list_any (λ k. p k || q k) xs ≡ (list_any p xs || list_any q xs) → ((a || b) || list_any (λ k. p k || q k) xs) ≡ ((a || list_any p xs) || (b || list_any q xs))
    step true b so_far = refl
    step false true so_far = swap (list_any p xs)
      where
        swap : (c : Bool) → true ≡ (c || true)
        swap true = refl
        swap false = refl
    step false false so_far = so_far

-- a test beside one of two
and-or : (a b c : Bool) → ((a || b) && c) ≡ ((a && c) || (b && c))
and-or true b true = refl
and-or true true false = refl
and-or true false false = refl
and-or false b c = refl

-- a test that never holds
list_any-never : (xs : List ℕ) → list_any (λ k. false) xs ≡ false
list_any-never [] = refl
list_any-never (x ∷ xs) = list_any-never xs

-- a test of the numbers of a list that is within a range
pub list_any-members : (q : ℕ → Bool) (xs : List ℕ) (n : ℕ) → AllByRecursion (λ x. x < n) xs → list_any (λ k. has_number xs k && q k) (range_with_len 0 n) ≡ list_any q xs
list_any-members q [] n below = list_any-never (range_with_len 0 n)
list_any-members q (x ∷ xs) n below =
    (λ i. list_any (λ k. and-or (x == k) (has_number xs k) (q k) i) (range_with_len 0 n))
    ∙ list_any-either (λ k. x == k && q k) (λ k. has_number xs k && q k) (range_with_len 0 n)
    ∙ (λ i. list_any-one q x 0 n (omega arith) (omega (arith, below.0)) i || list_any-members q xs n below.1 i)

-- the same, where another test says what is among the numbers
pub list_any-marked : (p q : ℕ → Bool) (xs : List ℕ) (n : ℕ) → ((k : ℕ) → k < n → p k ≡ has_number xs k) → AllByRecursion (λ x. x < n) xs → list_any (λ k. p k && q k) (range_with_len 0 n) ≡ list_any q xs
list_any-marked p q xs n agree below =
    list_any-agree (λ k. p k && q k) (λ k. has_number xs k && q k) 0 n n (omega arith) (λ k inside. ap (λ b. b && q k) (agree k inside))
    ∙ list_any-members q xs n below

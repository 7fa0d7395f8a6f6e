-- Lists of places, each there once; and what is found in a list.
use Rattle.std.proofs.Common.{◌≡◌, ◌≢◌, ℕ, zero, suc, ◌<◌, inl, inr, Bool, true, false, ◌==◌, ltb, List, [], ◌∷◌, ◌++◌, length, get_or, map, position, AllPairs, Some, None, refl, sym, ap, arith, eqb}
use Rattle.std.specs.List.{AllByRecursion, list_all, list_any, position_or_len}
use Rattle.std.proofs.lemmas.Bool.{and_from, and_parts, cases_Bool, eqb-false, ltb-true, or_parts}

-- ---- what is found

-- a place that was found
pub position-below : {X : Type 0} (p : X → Bool) (xs : List X) (k : ℕ) → position p xs ≡ Some k → k < length xs
position-below p xs k is =
    elim (cases_Bool (ltb (position_or_len p xs) (length xs))) [
      | inl e ↦ let same : Some (position_or_len p xs) ≡ Some k = rw e at is in let below = ltb-true (position_or_len p xs) (length xs) e in let at : position_or_len p xs ≡ k = cc in omega arith
      | inr e ↦ let none : None ≡ Some k = rw e at is in absurd (cc)
    ]

-- ---- one more member, wherever it stands

-- what each passes, and one more does too
pub list_all-insert : {X : Type 0} (p : X → Bool) (xs ys : List X) (x : X) → list_all p (xs ++ ys) ≡ true → p x ≡ true → list_all p (xs ++ x ∷ ys) ≡ true
list_all-insert p [] ys x all here = and_from (p x) (list_all p ys) here all
list_all-insert p (z ∷ xs) ys x all here =
    let parts = and_parts (p z) (list_all p (xs ++ ys)) all in
    and_from (p z) (list_all p (xs ++ x ∷ ys)) parts.0 (list_all-insert p xs ys x parts.1 here)

-- one more of a list that a function goes over, before another list
pub map-insert : {X : Type 0} (f : X → ℕ) (xs : List X) (x : X) (ys : List ℕ) → map f (xs ++ x ∷ []) ++ ys ≡ map f xs ++ f x ∷ ys
map-insert f [] x ys = refl
map-insert f (z ∷ xs) x ys = ap (λ (zs : List ℕ). f z ∷ zs) (map-insert f xs x ys)

-- ---- places, each once

-- a place stands not among these
abbrev pub IsApart : ℕ → List ℕ → Type 0
IsApart x xs = AllByRecursion (λ y. y ≢ x) xs

-- each stands once
abbrev pub AreOnce : List ℕ → Type 0
AreOnce [] = Unit {0}
AreOnce (x ∷ xs) = IsApart x xs × AreOnce xs

-- a place that stands in neither of two lists
pub apart-append : (x : ℕ) (xs ys : List ℕ) → IsApart x xs → IsApart x ys → IsApart x (xs ++ ys)
apart-append x [] ys first second = second
apart-append x (z ∷ xs) ys first second = (first.0, apart-append x xs ys first.1 second)

-- a place that no member's is
pub apart-none : {X : Type 0} (f : X → ℕ) (xs : List X) (x : ℕ) → list_any (λ y. f y == x) xs ≡ false → IsApart x (map f xs)
apart-none f [] x none = tt
apart-none f (y ∷ xs) x none =
    let parts = or_parts (eqb (f y) x) (list_any (λ z. f z == x) xs) none in
    (eqb-false (f y) x parts.0, apart-none f xs x parts.1)

-- one more that is another
apart-insert : (x : ℕ) (xs ys : List ℕ) (z : ℕ) → IsApart x (xs ++ ys) → z ≢ x → IsApart x (xs ++ z ∷ ys)
apart-insert x [] ys z apart other = (other, apart)
apart-insert x (y ∷ xs) ys z apart other = (apart.0, apart-insert x xs ys z apart.1 other)

-- one more that stands not among them
pub once-insert : (xs ys : List ℕ) (z : ℕ) → AreOnce (xs ++ ys) → IsApart z (xs ++ ys) → AreOnce (xs ++ z ∷ ys)
once-insert [] ys z once apart = (apart, once)
once-insert (x ∷ xs) ys z once apart =
    (apart-insert x xs ys z once.0 (λ same. apart.0 (sym same)), once-insert xs ys z once.1 apart.1)

-- a member is none from which all are apart
apart-at : (x : ℕ) (xs : List ℕ) (k d : ℕ) → k < length xs → IsApart x xs → x ≢ get_or xs k d
apart-at x [] k d below apart = absurd (omega arith)
apart-at x (y ∷ xs) zero d below apart = λ same. apart.0 (sym same)
apart-at x (y ∷ xs) (suc k) d below apart = apart-at x xs k d (omega arith) apart.1

-- no two of them are the same
pub once-pairs : (xs : List ℕ) → AreOnce xs → AllPairs (λ a b. a ≢ b) xs
once-pairs [] once i j d before below = absurd (omega arith)
once-pairs (x ∷ xs) once zero zero d before below = absurd (omega arith)
once-pairs (x ∷ xs) once zero (suc j) d before below = apart-at x xs j d (omega arith) once.0
once-pairs (x ∷ xs) once (suc i) zero d before below = absurd (omega arith)
once-pairs (x ∷ xs) once (suc i) (suc j) d before below = once-pairs xs once.1 i j d (omega arith) (omega arith)

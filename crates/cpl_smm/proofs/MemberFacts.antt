-- Members of lists, and what is found among them.
use Rattle.std.proofs.Common.{◌≡◌, ◌⊎◌, ◌∙◌, ℕ, zero, suc, ◌<◌, Bool, true, false, List, [], ◌∷◌, ◌++◌, All, length, get_or, filter, find, Option, Some, None, refl, sym, ap, subst, inl, inr, arith}
use Rattle.std.proofs.lemmas.Bool.{cases_Bool}
use Rattle.std.proofs.lemmas.List.Sorted.{Contains-permutation, IsPermutation-sym}
use Rattle.std.specs.List.{Contains}
use Rattle.std.specs.List.Sorted.{IsPermutation}

-- a member of a list
abbrev pub IsIn : {X : Type 0} → X → List X → Type 0
IsIn x [] = ⊥
IsIn x (y ∷ ys) = (x ≡ y) ⊎ IsIn x ys

-- a member at some place
is_in-at : {X : Type 0} (x : X) (xs : List X) (k : ℕ) → k < length xs → get_or xs k x ≡ x → IsIn x xs
is_in-at x [] k few here = omega arith
is_in-at x (y ∷ ys) zero few here = inl (sym here)
is_in-at x (y ∷ ys) (suc k) few here = inr (is_in-at x ys k (omega arith) here)

-- the place of a member
place-of : {X : Type 0} (x : X) (xs : List X) → IsIn x xs → Contains xs x
place-of x [] here = absurd here
place-of x (y ∷ ys) (inl same) = (0, omega arith, sym same)
place-of x (y ∷ ys) (inr there) = let (k, few, is) = place-of x ys there in (suc k, omega arith, is)

-- a member of a list is one of the same in another order
pub is_in-permutation : {X : Type 0} (xs ys : List X) (x : X) → IsPermutation xs ys → IsIn x xs → IsIn x ys
is_in-permutation xs ys x moved here =
    let (k, few, is) = Contains-permutation xs ys x moved (place-of x xs here) in is_in-at x ys k few is

-- a member of one of two lists
pub is_in-left : {X : Type 0} (x : X) (xs ys : List X) → IsIn x xs → IsIn x (xs ++ ys)
is_in-left x [] ys here = absurd here
is_in-left x (z ∷ zs) ys (inl same) = inl same
is_in-left x (z ∷ zs) ys (inr there) = inr (is_in-left x zs ys there)

pub is_in-right : {X : Type 0} (x : X) (xs ys : List X) → IsIn x ys → IsIn x (xs ++ ys)
is_in-right x [] ys here = here
is_in-right x (z ∷ zs) ys here = inr (is_in-right x zs ys here)

pub is_in-either : {X : Type 0} (x : X) (xs ys : List X) → IsIn x (xs ++ ys) → IsIn x xs ⊎ IsIn x ys
is_in-either x [] ys here = inr here
is_in-either x (z ∷ zs) ys (inl same) = inl (inl same)
is_in-either x (z ∷ zs) ys (inr there) = elim (is_in-either x zs ys there) [ inl a ↦ inl (inr a) | inr b ↦ inr b ]

-- what is found passes, and is a member
pub find-found : {X : Type 0} (p : X → Bool) (xs : List X) (x : X) → find p xs ≡ Some x → IsIn x xs × (p x ≡ true)
find-found p [] x found = absurd (cc)
find-found p (y ∷ ys) x found =
    elim (cases_Bool (p y)) [
      | inl passes ↦ let e = rw passes at found in let same : y ≡ x = cc in (inl (sym same), ap p (sym same) ∙ passes)
      | inr fails ↦ let e = rw fails at found in let (there, passes) = find-found p ys x e in (inr there, passes)
    ]

-- where none is found, no member passes
pub find-none : {X : Type 0} (p : X → Bool) (xs : List X) (x : X) → find p xs ≡ None → IsIn x xs → p x ≡ false
find-none p [] x none here = absurd here
find-none p (y ∷ ys) x none here =
    elim (cases_Bool (p y)) [
      | inl passes ↦ let e = rw passes at none in absurd (cc)
      | inr fails ↦ let e = rw fails at none in elim here [ inl same ↦ ap p same ∙ fails | inr there ↦ find-none p ys x e there ]
    ]

-- where one member at most passes, the order doesn't count
pub find-permutation : {X : Type 0} (p : X → Bool) (xs ys : List X) → IsPermutation xs ys
    → ((x y : X) → IsIn x ys → IsIn y ys → p x ≡ true → p y ≡ true → x ≡ y) → find p xs ≡ find p ys
find-permutation {X = X} p xs ys moved unique = by (find p xs) (find p ys) refl refl
  where
    by : (a b : Option X) → find p xs ≡ a → find p ys ≡ b → a ≡ b
    by None None none none_there = refl
    by (Some x) (Some y) found there =
        let (here, passes) = find-found p xs x found in
        let (other, passes_there) = find-found p ys y there in
        ap Some (unique x y (is_in-permutation xs ys x moved here) other passes passes_there)
    by (Some x) None found none =
        let (here, passes) = find-found p xs x found in
        let fails = find-none p ys x none (is_in-permutation xs ys x moved here) in
        absurd (cc)
    by None (Some y) none there =
        let (other, passes) = find-found p ys y there in
        let fails = find-none p xs y none (is_in-permutation ys xs y (IsPermutation-sym xs ys moved) other) in
        absurd (cc)

-- what passes a filter is found behind it
pub find-filter : {X : Type 0} (p q : X → Bool) (xs : List X) → ((x : X) → IsIn x xs → p x ≡ true → q x ≡ true) → find p (filter q xs) ≡ find p xs
find-filter p q [] implies = refl
find-filter p q (x ∷ xs) implies =
    elim (cases_Bool (q x)) [
      | inl kept ↦ rw kept (elim (cases_Bool (p x)) [
        | inl passes ↦ rw passes refl
        | inr fails ↦ rw fails (find-filter p q xs (λ y there. implies y (inr there)))
      ])
      | inr gone ↦ elim (cases_Bool (p x)) [
        | inl passes ↦ let kept = implies x (inl refl) passes in absurd (cc)
        | inr fails ↦ rw (gone, fails) (find-filter p q xs (λ y there. implies y (inr there)))
      ]
    ]

-- a member of what passes a filter
pub is_in-filter : {X : Type 0} (p : X → Bool) (xs : List X) (x : X) → IsIn x (filter p xs) → IsIn x xs × (p x ≡ true)
is_in-filter p [] x here = absurd here
is_in-filter p (y ∷ ys) x here =
    elim (cases_Bool (p y)) [
      | inl kept ↦ elim (rw kept at here) [
        | inl same ↦ (inl same, ap p same ∙ kept)
        | inr there ↦ let (later, passes) = is_in-filter p ys x there in (inr later, passes)
      ]
      | inr gone ↦ let (later, passes) = is_in-filter p ys x (rw gone at here) in (inr later, passes)
    ]

-- what holds of each member
pub All-in : {X : Type 0} (P : X → Type 0) (xs : List X) (x : X) → All P xs → IsIn x xs → P x
All-in P xs x all here = let (k, few, is) = place-of x xs here in subst P is (all k x few)

-- a first member, and others
All-first : {X : Type 0} (P : X → Type 0) (y : X) (ys : List X) → P y → All P ys → (k : ℕ) (d : X) → k < length (y ∷ ys) → P (get_or (y ∷ ys) k d)
All-first P y ys first rest zero d few = first
All-first P y ys first rest (suc k) d few = rest k d (omega arith)

-- and the other way
pub All-from_in : {X : Type 0} (P : X → Type 0) (xs : List X) → ((x : X) → IsIn x xs → P x) → All P xs
All-from_in P [] each = λ k d few. absurd (omega arith)
All-from_in P (y ∷ ys) each = All-first P y ys (each y (inl refl)) (All-from_in P ys (λ x here. each x (inr here)))

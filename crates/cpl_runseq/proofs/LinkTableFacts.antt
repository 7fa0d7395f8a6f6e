-- The table in which connectors are found, with one connector more.
use Rattle.std.proofs.Common.{◌≡◌, ℕ, ◌+◌, ◌*◌, ◌<◌, ◌≤◌, Bool, true, false, eqb, inl, inr, List, [], ◌∷◌, ◌++◌, length, filter, position, Option, Some, None, is_some, refl, sym, ap, ◌∙◌, arith, zero, suc}
use Rattle.std.proofs.lemmas.Bool.{and_from, and_parts, cases_Bool, eqb-true, eq-eqb}
use Rattle.std.proofs.lemmas.Iterator.Adapters.{position_from-zero}
use Rattle.std.proofs.lemmas.List.{length-set}
use Rattle.std.proofs.Math.ListN.{set}
use Rattle.std.specs.List.{position_from, slice_get}
use Rattle.cpl_sequence.specs.declared.link_line.LinkLine.{LinkLine}
use Rattle.cpl_runseq.specs.LinkTable.{IsIndexed}
use Rattle.cpl_runseq.specs.Links.{is_of, link_at}

-- ---- the place of a connector

-- a member behind the others that doesn't pass changes no place
position_from-other : {X : Type 0} (p : X → Bool) (n : ℕ) (xs : List X) (x : X) → p x ≡ false → position_from p n (xs ++ x ∷ []) ≡ position_from p n xs
position_from-other p n [] x fails = rw fails refl
position_from-other p n (y ∷ ys) x fails =
    elim (cases_Bool (p y)) [ inl e ↦ rw e refl | inr e ↦ rw e (position_from-other p (n + 1) ys x fails) ]

-- the first that passes, where none before it does
position_from-new : {X : Type 0} (p : X → Bool) (n : ℕ) (xs : List X) (x : X) → p x ≡ true → position_from p n xs ≡ None → position_from p n (xs ++ x ∷ []) ≡ Some (n + length xs)
position_from-new p n [] x passes none = rw passes (ap Some (omega arith))
position_from-new p n (y ∷ ys) x passes none =
    elim (cases_Bool (p y)) [
      | inl e ↦ let fails : Some n ≡ None = rw e at none in absurd (cc)
      | inr e ↦ rw e (position_from-new p (n + 1) ys x passes (rw e at none) ∙ ap Some (omega arith))
    ]

-- the same of places counted from 0
position-other : {X : Type 0} (p : X → Bool) (xs : List X) (x : X) → p x ≡ false → position p (xs ++ x ∷ []) ≡ position p xs
position-other p xs x fails = position_from-zero p (xs ++ x ∷ []) ∙ position_from-other p 0 xs x fails ∙ sym (position_from-zero p xs)

-- and of the first that passes
position-new : {X : Type 0} (p : X → Bool) (xs : List X) (x : X) → p x ≡ true → position p xs ≡ None → position p (xs ++ x ∷ []) ≡ Some (length xs)
position-new p xs x passes none =
    position_from-zero p (xs ++ x ∷ []) ∙ position_from-new p 0 xs x passes (sym (position_from-zero p xs) ∙ none) ∙ ap Some (omega arith)

-- ---- what stands in the table

-- what was put there
slice_get-set_same : {X : Type 0} (xs : List X) (i : ℕ) (x : X) → i < length xs → slice_get (set xs i x) i ≡ Some x
slice_get-set_same [] i x inside = absurd (omega arith)
slice_get-set_same (y ∷ ys) zero x inside = refl
slice_get-set_same (y ∷ ys) (suc i) x inside = slice_get-set_same ys i x (omega arith)

-- elsewhere what was there
slice_get-set_other : {X : Type 0} (xs : List X) (i j : ℕ) (x : X) → (j ≡ i → ⊥) → slice_get (set xs i x) j ≡ slice_get xs j
slice_get-set_other [] i j x other = refl
slice_get-set_other (y ∷ ys) zero zero x other = absurd (other refl)
slice_get-set_other (y ∷ ys) zero (suc j) x other = refl
slice_get-set_other (y ∷ ys) (suc i) zero x other = refl
slice_get-set_other (y ∷ ys) (suc i) (suc j) x other = slice_get-set_other ys i j x (λ e. other (ap suc e))

-- one more is there
count-set : {X : Type 0} (xs : List (Option X)) (i : ℕ) (x : X) → slice_get xs i ≡ Some None → length (filter is_some (set xs i (Some x))) ≡ suc (length (filter is_some xs))
count-set [] i x none = absurd (cc)
count-set (y ∷ ys) zero x none = let is : y ≡ None = cc in rw is refl
count-set (None ∷ ys) (suc i) x none = count-set ys i x none
count-set (Some y ∷ ys) (suc i) x none = ap suc (count-set ys i x none)

-- no more are there than there are places
pub count-most : {X : Type 0} (xs : List (Option X)) → length (filter is_some xs) ≤ length xs
count-most [] = omega arith
count-most (None ∷ xs) = let rest = count-most xs in omega arith
count-most (Some x ∷ xs) = let rest = count-most xs in omega arith

-- ---- one connector more

-- one member more
length-push : {X : Type 0} (xs : List X) (x : X) → length (xs ++ x ∷ []) ≡ suc (length xs)
length-push [] x = refl
length-push (y ∷ ys) x = ap suc (length-push ys x)

-- the slots of two pairs are the same only where the pairs are
same_slot : (a b c d : ℕ) → b < 32 → d < 32 → 32 * a + b ≡ 32 * c + d → (a ≡ c) × (b ≡ d)
same_slot a b c d b_few d_few same = (omega arith, omega arith)

-- where a pair stands, with a new pair behind the others
found_more : (links : List LinkLine) (places : List (Option ℕ)) (l : LinkLine) → IsIndexed links places → l.src < 32 → l.dst < 32 → link_at l.src l.dst links ≡ None → (src dst : ℕ) → src < 32 → dst < 32 → slice_get (set places (32 * l.src + l.dst) (Some (length links))) (32 * src + dst) ≡ Some (link_at src dst (links ++ l ∷ []))
found_more links places l indexed s d fresh src dst s_few d_few =
    elim (cases_Bool (is_of src dst l)) [
      | inl e ↦
          let parts = and_parts (eqb l.src src) (eqb l.dst dst) e in
          let a = eqb-true l.src src parts.0 in
          let b = eqb-true l.dst dst parts.1 in
          let none : link_at src dst links ≡ None = rw (← a, ← b) fresh in
          let slot : 32 * src + dst ≡ 32 * l.src + l.dst = omega arith in
          rw (slot, slice_get-set_same places (32 * l.src + l.dst) (Some (length links)) (omega (arith, indexed.size))) (ap Some (sym (position-new (is_of src dst) links l e none)))
      | inr e ↦
          slice_get-set_other places (32 * l.src + l.dst) (32 * src + dst) (Some (length links)) (λ same.
          let parts = same_slot src dst l.src l.dst d_few d same in
          let passes : is_of src dst l ≡ true = and_from (eqb l.src src) (eqb l.dst dst) (eq-eqb l.src src (sym parts.0)) (eq-eqb l.dst dst (sym parts.1)) in
          let fails : true ≡ false = sym passes ∙ e in cc)
          ∙ indexed.finds src dst s_few d_few ∙ ap Some (sym (position-other (is_of src dst) links l e))
    ]

-- the table with a new pair
pub indexed_more : (links more : List LinkLine) (places : List (Option ℕ)) (l : LinkLine) (k : ℕ) → more ≡ links ++ l ∷ [] → k ≡ length links → IsIndexed links places → l.src < 32 → l.dst < 32 → link_at l.src l.dst links ≡ None → IsIndexed more (set places (32 * l.src + l.dst) (Some k))
indexed_more links more places l k made counted indexed s d fresh =
    let here = indexed.finds l.src l.dst s d ∙ ap Some fresh in
    rw (made, counted) (record {
      size = length-set places (32 * l.src + l.dst) (Some (length links)) ∙ indexed.size;
      finds = found_more links places l indexed s d fresh;
      count = count-set places (32 * l.src + l.dst) (length links) here ∙ ap suc indexed.count ∙ sym (length-push links l);
    })

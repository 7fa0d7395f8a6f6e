-- The table in which ways are found, with one way more.
use Rattle.std.proofs.Common.{◌≡◌, ℕ, zero, suc, ◌+◌, ◌*◌, ◌<◌, Bool, true, false, eqb, ltb, inl, inr, List, [], ◌∷◌, ◌++◌, length, get_or, position, take, find, Option, Some, None, is_some, refl, sym, ap, ◌∙◌, arith}
use Rattle.std.proofs.lemmas.Bool.{and_from, and_parts, cases_Bool, eqb-true, eq-eqb, ltb-false}
use Rattle.std.proofs.lemmas.Iterator.Adapters.{position_from-zero}
use Rattle.std.proofs.lemmas.List.{length-set, take_more}
use Rattle.std.proofs.lemmas.List.Folds.{find_at}
use Rattle.std.proofs.lemmas.List.Quantifiers.{position-Some}
use Rattle.std.proofs.lemmas.Option.{get_or_from_slice_get, slice_get-get_or, slice_get_past}
use Rattle.std.proofs.Math.ListN.{set}
use Rattle.std.specs.List.{position_from, position_or_len, slice_get}
use Rattle.cpl_match.specs.Matching.{is_between, way_between}
use Rattle.cpl_match.specs.WayIndex.{IsIndexed}
use Rattle.cpl_match.specs.declared.port.Way.{Way}

module _ {X : Type 0} (p : X → Bool) where
  -- ---- the first that passes a test

  -- its place
  position_or_len-found : (xs : List X) (k : ℕ) → position p xs ≡ Some k → position_or_len p xs ≡ k
  position_or_len-found xs k is =
      elim (cases_Bool (ltb (position_or_len p xs) (length xs))) [
        | inl e ↦ let same : Some (position_or_len p xs) ≡ Some k = rw e at is in cc
        | inr e ↦ let none : None ≡ Some k = rw e at is in absurd (cc)
      ]

  -- it is what slice_get-slot at its place
  pub find-some : (xs : List X) (k : ℕ) → position p xs ≡ Some k → find p xs ≡ slice_get xs k
  find-some xs k is = find_at p xs ∙ ap (slice_get xs) (position_or_len-found xs k is)

  -- there is none
  pub find-none : (xs : List X) → position p xs ≡ None → find p xs ≡ None
  find-none xs is =
      elim (cases_Bool (ltb (position_or_len p xs) (length xs))) [
        | inl e ↦ let some : Some (position_or_len p xs) ≡ None = rw e at is in absurd (cc)
        | inr e ↦ find_at p xs ∙ slice_get_past xs (position_or_len p xs) (ltb-false (position_or_len p xs) (length xs) e)
      ]

  -- a member behind the others that doesn't pass changes no place
  position_from-other : (n : ℕ) (xs : List X) (x : X) → p x ≡ false → position_from p n (xs ++ x ∷ []) ≡ position_from p n xs
  position_from-other n [] x fails = rw fails refl
  position_from-other n (y ∷ ys) x fails =
      elim (cases_Bool (p y)) [ inl e ↦ rw e refl | inr e ↦ rw e (position_from-other (n + 1) ys x fails) ]

  -- nor does any where one passes before it
  position_from-kept : (n : ℕ) (xs : List X) (x : X) (k : ℕ) → position_from p n xs ≡ Some k → position_from p n (xs ++ x ∷ []) ≡ Some k
  position_from-kept n [] x k is = absurd (cc)
  position_from-kept n (y ∷ ys) x k is =
      elim (cases_Bool (p y)) [
        | inl e ↦ let same : Some n ≡ Some k = rw e at is in rw e same
        | inr e ↦ rw e (position_from-kept (n + 1) ys x k (rw e at is))
      ]

  -- the first that passes, where none before it does
  position_from-new : (n : ℕ) (xs : List X) (x : X) → p x ≡ true → position_from p n xs ≡ None → position_from p n (xs ++ x ∷ []) ≡ Some (n + length xs)
  position_from-new n [] x passes none = rw passes (ap Some (omega arith))
  position_from-new n (y ∷ ys) x passes none =
      elim (cases_Bool (p y)) [
        | inl e ↦ let fails : Some n ≡ None = rw e at none in absurd (cc)
        | inr e ↦ rw e (position_from-new (n + 1) ys x passes (rw e at none) ∙ ap Some (omega arith))
      ]

  -- ---- places counted from 0

  position-other : (xs : List X) (x : X) → p x ≡ false → position p (xs ++ x ∷ []) ≡ position p xs
  position-other xs x fails = position_from-zero p (xs ++ x ∷ []) ∙ position_from-other 0 xs x fails ∙ sym (position_from-zero p xs)

  position-kept : (xs : List X) (x : X) (k : ℕ) → position p xs ≡ Some k → position p (xs ++ x ∷ []) ≡ Some k
  position-kept xs x k is = position_from-zero p (xs ++ x ∷ []) ∙ position_from-kept 0 xs x k (sym (position_from-zero p xs) ∙ is)

  position-new : (xs : List X) (x : X) → p x ≡ true → position p xs ≡ None → position p (xs ++ x ∷ []) ≡ Some (length xs)
  position-new xs x passes none =
      position_from-zero p (xs ++ x ∷ []) ∙ position_from-new 0 xs x passes (sym (position_from-zero p xs) ∙ none) ∙ ap Some (omega arith)

-- ---- what slice_get-slot in the table

-- what was put there
slice_get-set_same : {X : Type 0} (xs : List X) (i : ℕ) (x : X) → i < length xs → slice_get (set xs i x) i ≡ Some x
slice_get-set_same [] i x inside = absurd (omega arith)
slice_get-set_same (y ∷ ys) zero x inside = refl
slice_get-set_same (y ∷ ys) (suc i) x inside = slice_get-set_same ys i x (omega arith)

-- elsewhere what was there
slice_get-set_other : {X : Type 0} (xs : List X) (i j : ℕ) (x : X) → (j ≡ i → ⊥) → slice_get (set xs i x) j ≡ slice_get xs j
slice_get-set_other [] i j x other = refl
slice_get-set_other (y ∷ ys) zero zero x other = absurd (other refl)
slice_get-set_other (y ∷ ys) zero (suc j) x other = refl
slice_get-set_other (y ∷ ys) (suc i) zero x other = refl
slice_get-set_other (y ∷ ys) (suc i) (suc j) x other = slice_get-set_other ys i j x (λ e. other (ap suc e))

-- the slots of two pairs are the same only where the pairs are
slot-same : (a b c d : ℕ) → b < 256 → d < 256 → 256 * a + b ≡ 256 * c + d → (a ≡ c) × (b ≡ d)
slot-same a b c d b_few d_few same = (omega arith, omega arith)

-- ---- one way more

-- between two components that have a way
IsIndexed-kept : (ways : List Way) (places : List (Option ℕ)) (way : Way) (k : ℕ) → way.src < 256 → way.dst < 256
    → slice_get places (256 * way.dst + way.src) ≡ Some (Some k) → IsIndexed ways places → IsIndexed (ways ++ way ∷ []) places
IsIndexed-kept ways places way k s d there indexed = record {
  size = indexed.size;
  finds = λ src dst few_src few_dst. indexed.finds src dst few_src few_dst ∙ ap Some (sym (same src dst));
}
  where
    same : (src dst : ℕ) → position (is_between src dst) (ways ++ way ∷ []) ≡ position (is_between src dst) ways
    same src dst =
        elim (cases_Bool (is_between src dst way)) [
          | inl e ↦
              let parts = and_parts (eqb way.src src) (eqb way.dst dst) e in
              let a = eqb-true way.src src parts.0 in
              let b = eqb-true way.dst dst parts.1 in
              let own : Some (Some k) ≡ Some (position (is_between way.src way.dst) ways) = sym there ∙ indexed.finds way.src way.dst s d in
              let found : position (is_between src dst) ways ≡ Some k = rw (← a, ← b) cc in
              position-kept (is_between src dst) ways way k found ∙ sym found
          | inr e ↦ position-other (is_between src dst) ways way e
        ]

-- between two components that have none
IsIndexed-new : (ways : List Way) (places : List (Option ℕ)) (way : Way) (k : ℕ) → k ≡ length ways → way.src < 256 → way.dst < 256
    → slice_get places (256 * way.dst + way.src) ≡ Some None → IsIndexed ways places → IsIndexed (ways ++ way ∷ []) (set places (256 * way.dst + way.src) (Some k))
IsIndexed-new ways places way k count s d there indexed = rw count (record {
  size = length-set places (256 * way.dst + way.src) (Some (length ways)) ∙ indexed.size;
  finds = finds;
})
  where
    finds : (src dst : ℕ) → src < 256 → dst < 256 → slice_get (set places (256 * way.dst + way.src) (Some (length ways))) (256 * dst + src) ≡ Some (position (is_between src dst) (ways ++ way ∷ []))
    finds src dst few_src few_dst =
        elim (cases_Bool (is_between src dst way)) [
          | inl e ↦
              let parts = and_parts (eqb way.src src) (eqb way.dst dst) e in
              let a = eqb-true way.src src parts.0 in
              let b = eqb-true way.dst dst parts.1 in
              let own : Some None ≡ Some (position (is_between way.src way.dst) ways) = sym there ∙ indexed.finds way.src way.dst s d in
              let none : position (is_between src dst) ways ≡ None = rw (← a, ← b) cc in
              let slot : 256 * dst + src ≡ 256 * way.dst + way.src = omega arith in
              rw (slot, slice_get-set_same places (256 * way.dst + way.src) (Some (length ways)) (omega (arith, indexed.size))) (ap Some (sym (position-new (is_between src dst) ways way e none)))
          | inr e ↦
              slice_get-set_other places (256 * way.dst + way.src) (256 * dst + src) (Some (length ways)) (λ same.
              let parts = slot-same dst src way.dst way.src few_src s same in
              let passes : is_between src dst way ≡ true = and_from (eqb way.src src) (eqb way.dst dst) (eq-eqb way.src src (sym parts.1)) (eq-eqb way.dst dst (sym parts.0)) in
              let fails : true ≡ false = sym passes ∙ e in cc)
              ∙ indexed.finds src dst few_src few_dst ∙ ap Some (sym (position-other (is_between src dst) ways way e))
        ]

-- what slice_get-slot in the slot of two components
slice_get-slot : (ways : List Way) (places : List (Option ℕ)) (way : Way) (slot : ℕ) (found : Option ℕ) → IsIndexed ways places → way.src < 256 → way.dst < 256 → slot ≡ 256 * way.dst + way.src
    → found ≡ get_or places slot found → slice_get places (256 * way.dst + way.src) ≡ Some found
slice_get-slot ways places way slot found indexed s d at is =
    slice_get-get_or places (256 * way.dst + way.src) found (omega (arith, indexed.size)) ∙ ap Some (ap (λ k. get_or places k found) (sym at) ∙ sym is)

-- a way behind others, where its components have one
pub IsIndexed-kept_at : (ways : List Way) (places : List (Option ℕ)) (way : Way) (slot : ℕ) (found : Option ℕ) → way.src < 256 → way.dst < 256 → slot ≡ 256 * way.dst + way.src
    → found ≡ get_or places slot found → is_some found ≡ true → IsIndexed ways places → IsIndexed (ways ++ way ∷ []) places
IsIndexed-kept_at ways places way slot None s d at is some indexed = absurd (cc)
IsIndexed-kept_at ways places way slot (Some k) s d at is some indexed =
    IsIndexed-kept ways places way k s d (slice_get-slot ways places way slot (Some k) indexed s d at is) indexed

-- and where they have none
pub IsIndexed-new_at : (ways : List Way) (places : List (Option ℕ)) (way : Way) (slot k : ℕ) (found : Option ℕ) → k ≡ length ways → way.src < 256 → way.dst < 256 → slot ≡ 256 * way.dst + way.src
    → found ≡ get_or places slot found → is_some found ≡ false → IsIndexed ways places → IsIndexed (ways ++ way ∷ []) (set places slot (Some k))
IsIndexed-new_at ways places way slot k None count s d at is none indexed =
    rw at (IsIndexed-new ways places way k count s d (slice_get-slot ways places way slot None indexed s d at is) indexed)
IsIndexed-new_at ways places way slot k (Some found) count s d at is none indexed = absurd (cc)

-- the next of the ways
pub IsIndexed-next : (ways : List Way) (places : List (Option ℕ)) (place : ℕ) (way : Way) → place < length ways → IsIndexed (take place ways ++ get_or ways place way ∷ []) places → IsIndexed (take (place + 1) ways) places
IsIndexed-next ways places place way inside indexed = rw (take_more ways place way inside) indexed

-- ---- a way that is looked up

-- the place that slice_get-slot in the table
position-slot : (ways : List Way) (places : List (Option ℕ)) (src dst slot : ℕ) (found : Option ℕ) → IsIndexed ways places → src < 256 → dst < 256 → slot ≡ 256 * dst + src
    → found ≡ get_or places slot found → position (is_between src dst) ways ≡ found
position-slot ways places src dst slot found indexed s d at is =
    let there = get_or_from_slice_get places (256 * dst + src) (position (is_between src dst) ways) found (indexed.finds src dst s d) in
    sym there ∙ ap (λ k. get_or places k found) (sym at) ∙ sym is

-- the first way between two components
pub way_between-some : (ways : List Way) (places : List (Option ℕ)) (src dst slot k : ℕ) (found : Option ℕ) (way : Way) → IsIndexed ways places → src < 256 → dst < 256 → slot ≡ 256 * dst + src
    → found ≡ get_or places slot found → found ≡ Some k → way ≡ get_or ways k way → way_between ways src dst ≡ Some way
way_between-some ways places src dst slot k found way indexed s d at is some here =
    let place = position-slot ways places src dst slot found indexed s d at is ∙ some in
    let inside = position-Some (is_between src dst) ways k way place in
    find-some (is_between src dst) ways k place ∙ slice_get-get_or ways k way inside.0 ∙ ap Some (sym here)

-- none
pub way_between-none : (ways : List Way) (places : List (Option ℕ)) (src dst slot : ℕ) (found : Option ℕ) → IsIndexed ways places → src < 256 → dst < 256 → slot ≡ 256 * dst + src
    → found ≡ get_or places slot found → found ≡ None → way_between ways src dst ≡ None
way_between-none ways places src dst slot found indexed s d at is none =
    find-none (is_between src dst) ways (position-slot ways places src dst slot found indexed s d at is ∙ none)

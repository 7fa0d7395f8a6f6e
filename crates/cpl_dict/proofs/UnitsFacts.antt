-- Members that are all equivalent to the first are equivalent to each other.
use Rattle.std.proofs.Common.{◌≡◌, Bool, true, false, ◌&&◌, List, [], ◌∷◌, Some, slice_get, refl, sym, ap, ◌∙◌}
use Rattle.std.proofs.lemmas.Bool.{and_from, and_left, and_parts}
use Rattle.std.specs.Cmp.{IsEquivalence}
use Rattle.std.specs.List.{list_all}

module _ {K : Type 0} (E : K → K → Bool) (laws : IsEquivalence E) (first : K) where
  -- a member that is equivalent to the first agrees with what the first agrees with
  list_all-same : (a : K) → E first a ≡ true → (xs : List K) → list_all (E a) xs ≡ list_all (E first) xs
  list_all-same a e [] = refl
  list_all-same a e (x ∷ xs) =
      let same = sym (laws.congr first a x e) in λ j. same j && list_all-same a e xs j

  -- where the first agrees with all of the others, so do they with each other
  each_agrees : (others all : List K) → list_all (E first) others ≡ true → list_all (E first) all ≡ true → list_all (λ a. list_all (E a) all) others ≡ true
  each_agrees [] all h whole = refl
  each_agrees (x ∷ xs) all h whole =
      let parts = and_parts (E first x) (list_all (E first) xs) h in
      and_from (list_all (E x) all) (list_all (λ a. list_all (E a) all) xs) (list_all-same x parts.0 all ∙ whole) (each_agrees xs all parts.1 whole)

  -- any two agree exactly where the first agrees with all
  pub list_all-first : (rest : List K) → list_all (E first) (first ∷ rest) ≡ list_all (λ a. list_all (E a) (first ∷ rest)) (first ∷ rest)
  list_all-first rest = by (list_all (E first) (first ∷ rest)) refl
    where
      by : (b : Bool) → list_all (E first) (first ∷ rest) ≡ b → b ≡ list_all (λ a. list_all (E a) (first ∷ rest)) (first ∷ rest)
      by true whole = sym (each_agrees (first ∷ rest) (first ∷ rest) whole whole)
      by false h = sym (and_left (list_all (E first) (first ∷ rest)) (list_all (λ a. list_all (E a) (first ∷ rest)) rest) h)

-- any two members of a list agree exactly where its first agrees with all
pub list_all-by_first : {K : Type 0} (E : K → K → Bool) → IsEquivalence E → (first : K) (xs : List K) → slice_get xs 0 ≡ Some first → list_all (E first) xs ≡ list_all (λ a. list_all (E a) xs) xs
list_all-by_first E laws first [] is = cc
list_all-by_first E laws first (x ∷ xs) is =
    let same : x ≡ first = cc in
    ap (λ f. list_all (E f) (x ∷ xs)) (sym same) ∙ list_all-first E laws x xs

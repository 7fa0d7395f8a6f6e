-- Which names are synonyms, by their places.
use Rattle.std.proofs.Common.{◌≡◌, ℕ, ◌<◌, Bool, true, false, cond, ◌||◌, eqb, List, [], ◌∷◌, ◌++◌, length, get_or, map, All, Some, is_some, Vec, Global, refl, sym, ap, ◌∙◌, arith, inl, inr, zero, suc}
use Rattle.std.proofs.lemmas.Bool.{cases_order, eq-eqb, ne_eqb, true≢false}
use Rattle.std.proofs.lemmas.List.{get_or-map, get_or_append_left, length-map}
use Rattle.std.proofs.lemmas.List.Elements.{All-head, All-tail}
use Rattle.std.proofs.lemmas.Map.Keys.{apart_from_distinct}
use Rattle.std.specs.Cmp.Lexicographic.{nat_list_eq_equiv}
use Rattle.std.specs.List.{IsDistinct}
use Rattle.std.specs.Map.{keys_of, lookup}
use Rattle.std.specs.Str.{bytes_eq}
use Rattle.cpl_dict.proofs.NamesFacts.{length-names_of, named-from_place, place_in}
use Rattle.cpl_dict.specs.Dict.{is_among}
use Rattle.cpl_dict.specs.Kept.{AreApart, IsKept, names_at, names_of}
use Rattle.cpl_dict.specs.Numbers.{has_number, name_at, places_from}

-- keys that are distinct are names that are
pub AreApart-names_of : (es : List (Vec ℕ Global × List ℕ)) → IsDistinct (λ (x y : Vec ℕ Global). bytes_eq x.items y.items) (keys_of es) → AreApart (names_of es)
AreApart-names_of [] distinct i j lt inside = absurd (omega arith)
AreApart-names_of (e ∷ es) distinct i j lt inside =
    let all = e ∷ es in
    let named : (k : ℕ) → k < length all → (get_or (keys_of all) k e.0).items ≡ name_at (names_of all) k = λ k within.
    ap (λ (v : Vec ℕ Global). v.items) (get_or-map (λ (p : Vec ℕ Global × List ℕ). p.0) all k e e.0 within)
    ∙ ap (λ (n : List ℕ × List ℕ). n.0) (sym (get_or-map (λ (p : Vec ℕ Global × List ℕ). (p.0.items, p.1)) all k e ([], []) within)) in
    let in_all : j < length all = omega (arith, length-names_of all) in
    let in_keys : j < length (keys_of all) = omega (arith, length-map all (λ (p : Vec ℕ Global × List ℕ). p.0)) in
    let at_i = named i (omega arith) in
    let at_j = named j in_all in
    sym (λ k. bytes_eq (at_i k) (at_j k)) ∙ apart_from_distinct (λ (x y : Vec ℕ Global). bytes_eq x.items y.items) (keys_of all) i j e.0 distinct lt in_keys

-- a name is that of its own place alone
pub place-only : (names : List (List ℕ × List ℕ)) → AreApart names → (a : List ℕ) (i : ℕ) → place_in names a ≡ Some i → (p : ℕ) → p < length names → bytes_eq a (name_at names p) ≡ eqb p i
place-only names apart a i is p inside =
    let there = named-from_place names a i is in
    let as_name : bytes_eq a (name_at names p) ≡ bytes_eq (name_at names i) (name_at names p) = ap (λ x. bytes_eq x (name_at names p)) (sym there.1) in
    as_name ∙ elim (cases_order i p) [
      | inl e ↦ ap (λ k. bytes_eq (name_at names k) (name_at names p)) e ∙ nat_list_eq_equiv.refl (name_at names p) ∙ sym (eq-eqb p i (sym e))
      | inr (inl lt) ↦ apart i p lt inside ∙ sym (ne_eqb p i (λ e. omega arith))
      | inr (inr gt) ↦ nat_list_eq_equiv.symm (name_at names i) (name_at names p) ∙ apart p i gt there.0 ∙ sym (ne_eqb p i (λ e. omega arith))
    ]

-- the names at places have a name exactly where the places have its place
pub is_among-names_at : (names : List (List ℕ × List ℕ)) (a : List ℕ) (i : ℕ) → ((p : ℕ) → p < length names → bytes_eq a (name_at names p) ≡ eqb p i) → (places : List ℕ) → All (λ p. p < length names) places → is_among (names_at names places) a ≡ has_number places i
is_among-names_at names a i only [] placed = refl
is_among-names_at names a i only (p ∷ ps) placed =
    let here = only p (All-head (λ q. q < length names) p ps placed) in
    let rest = is_among-names_at names a i only ps (All-tail (λ q. q < length names) p ps placed) in λ j. here j || rest j

-- a name that isn't there is at no place
missing_at : (names : List (List ℕ × List ℕ)) (a : List ℕ) → is_some (lookup (bytes_eq a) names) ≡ false → (p : ℕ) → p < length names → bytes_eq a (name_at names p) ≡ false
missing_at [] a missing p inside = absurd (omega arith)
missing_at (n ∷ ns) a missing p inside = step (bytes_eq a n.0) refl missing p inside (missing_at ns a)
  where
    step : (b : Bool) → bytes_eq a n.0 ≡ b → is_some (cond b (Some n.1) (lookup (bytes_eq a) ns)) ≡ false → (p : ℕ) → p < length (n ∷ ns)
        → (is_some (lookup (bytes_eq a) ns) ≡ false → (q : ℕ) → q < length ns → bytes_eq a (name_at ns q) ≡ false) → bytes_eq a (name_at (n ∷ ns) p) ≡ false
    step true e missing p inside rest = absurd (true≢false missing)
    step false e missing zero inside rest = e
    step false e missing (suc p) inside rest = rest missing p (omega arith)

-- no names at places have a name that is at no place
pub is_among-never : (names : List (List ℕ × List ℕ)) (a : List ℕ) → ((p : ℕ) → p < length names → bytes_eq a (name_at names p) ≡ false) → (places : List ℕ) → All (λ p. p < length names) places → is_among (names_at names places) a ≡ false
is_among-never names a never [] placed = refl
is_among-never names a never (p ∷ ps) placed =
    let here = never p (All-head (λ q. q < length names) p ps placed) in
    let rest = is_among-never names a never ps (All-tail (λ q. q < length names) p ps placed) in λ j. here j || rest j

-- tests that agree at each group find the same numbers
pub places_from-by : (names : List (List ℕ × List ℕ)) (a : List ℕ) (test : List ℕ → Bool) → ((places : List ℕ) → All (λ p. p < length names) places → is_among (names_at names places) a ≡ test places) → (n : ℕ) (groups : List (List ℕ)) → All (All (λ p. p < length names)) groups → places_from n (λ g. is_among g a) (map (names_at names) groups) ≡ places_from n test groups
places_from-by names a test same n [] placed = refl
places_from-by names a test same n (g ∷ gs) placed =
    let here = same g (All-head (All (λ p. p < length names)) g gs placed) in
    let rest = places_from-by names a test same (suc n) gs (All-tail (All (λ p. p < length names)) g gs placed) in λ j. cond (here j) (n ∷ rest j) (rest j)

-- no group passes a test that none passes
places_from-never : (n : ℕ) (groups : List (List ℕ)) → places_from n (λ (g : List ℕ). false) groups ≡ []
places_from-never n [] = refl
places_from-never n (g ∷ gs) = places_from-never (suc n) gs

-- the groups that have a name that is there are those whose numbers its place has
pub calls-found : (names : List (List ℕ × List ℕ)) (groups lists : List (List ℕ)) → AreApart names → IsKept (length names) groups lists → (a : List ℕ) (i : ℕ) → place_in names a ≡ Some i → get_or lists i [] ≡ places_from 0 (λ g. is_among g a) (map (names_at names) groups)
calls-found names groups lists apart kept a i at =
    kept.noted i
    ∙ sym (places_from-by names a (λ g. has_number g i) (is_among-names_at names a i (place-only names apart a i at)) 0 groups kept.placed)

-- no group has a name that isn't there
pub calls-missing : (names : List (List ℕ × List ℕ)) (groups lists : List (List ℕ)) → IsKept (length names) groups lists → (a : List ℕ) → is_some (lookup (bytes_eq a) names) ≡ false → [] ≡ places_from 0 (λ g. is_among g a) (map (names_at names) groups)
calls-missing names groups lists kept a missing =
    sym (places_from-by names a (λ g. false) (is_among-never names a (missing_at names a missing)) 0 groups kept.placed ∙ places_from-never 0 groups)

-- one more name changes no name at a place
names_at-more : (names : List (List ℕ × List ℕ)) (n : List ℕ × List ℕ) (places : List ℕ) → All (λ p. p < length names) places → names_at (names ++ n ∷ []) places ≡ names_at names places
names_at-more names n [] placed = refl
names_at-more names n (p ∷ ps) placed =
    let here = ap (λ (x : List ℕ × List ℕ). x.0) (get_or_append_left names (n ∷ []) ([], []) p (All-head (λ q. q < length names) p ps placed)) in
    let rest = names_at-more names n ps (All-tail (λ q. q < length names) p ps placed) in λ j. here j ∷ rest j

-- and no group
pub groups_at-more : (names : List (List ℕ × List ℕ)) (n : List ℕ × List ℕ) (groups : List (List ℕ)) → All (All (λ p. p < length names)) groups → map (names_at (names ++ n ∷ [])) groups ≡ map (names_at names) groups
groups_at-more names n [] placed = refl
groups_at-more names n (g ∷ gs) placed =
    let here = names_at-more names n g (All-head (All (λ p. p < length names)) g gs placed) in
    let rest = groups_at-more names n gs (All-tail (All (λ p. p < length names)) g gs placed) in λ j. here j ∷ rest j

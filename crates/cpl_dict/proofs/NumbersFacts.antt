-- Names and synonym calls by their numbers.
use Rattle.std.proofs.Common.{◌≡◌, ℕ, ◌+◌, ◌<◌, ◌⊎◌, Bool, true, false, ◌||◌, ◌&&◌, cond, not, eqb, nat_lt, zero, suc, List, [], ◌∷◌, length, get_or, map, All, Some, None, position, refl, sym, ap, ◌∙◌, arith, inl, inr}
use Rattle.std.proofs.lemmas.Bool.{cases_Bool, eq-eqb, lt-ltb, ne_eqb}
use Rattle.std.proofs.lemmas.List.{get_or-map, length-map}
use Rattle.std.proofs.lemmas.List.Elements.{All-head, All-map, All-tail, All-weaker}
use Rattle.std.proofs.lemmas.List.Folds.{list_any_none}
use Rattle.std.proofs.lemmas.List.Sums.{prefix_len_is}
use Rattle.std.specs.Cmp.Lexicographic.{nat_list_eq_equiv, same_text}
use Rattle.std.specs.List.{cons_option, filter_map, list_any}
use Rattle.std.specs.List.Sorted.{IsStrictlyIncreasing}
use Rattle.std.specs.Str.{bytes_eq}
use Rattle.cpl_dict.proofs.AscendingFacts.{has_number-below}
use Rattle.cpl_dict.proofs.KeptFacts.{IsAscending-places_from, have_common-places_from, places_from-below}
use Rattle.cpl_dict.proofs.NamesFacts.{named-from_place, place_in, position-map}
use Rattle.cpl_dict.proofs.SynonymsFacts.{is_among-names_at, is_among-never, place-only, places_from-by}
use Rattle.cpl_dict.specs.Dict.{Dictionary, are_synonyms, bond_of, is_among}
use Rattle.cpl_dict.specs.Kept.{AreApart, IsAscending, IsKept, names_at}
use Rattle.cpl_dict.specs.Numbers.{IsNumbered, bond_between, call_names_of, calls_of, has_number, have_common, name_at, number_of, places_from}

-- ---- lists

-- the first place that passes
position-is : {X : Type 0} (p : X → Bool) (xs : List X) (n : ℕ) (d : X) → n < length xs → p (get_or xs n d) ≡ true → ((k : ℕ) → k < n → p (get_or xs k d) ≡ false) → position p xs ≡ Some n
position-is p xs n d inside here before =
    let len = prefix_len_is (λ x. not (p x)) xs n d (omega arith) (λ k lt. ap not (before k lt)) (λ _. ap not here) in
    (λ j. cond (nat_lt (len j) (length xs)) (Some (len j)) None) ∙ ap (λ b. cond b (Some n) None) (lt-ltb n (length xs) inside)

-- tests that agree on each member
list_any-same : {X : Type 0} (p q : X → Bool) (xs : List X) → All (λ x. p x ≡ q x) xs → list_any p xs ≡ list_any q xs
list_any-same p q [] same = refl
list_any-same p q (x ∷ xs) same =
    let here = All-head (λ x. p x ≡ q x) x xs same in
    let rest = list_any-same p q xs (All-tail (λ x. p x ≡ q x) x xs same) in λ j. here j || rest j

-- ascending numbers increase
pub IsStrictlyIncreasing-IsAscending : (n : ℕ) (xs : List ℕ) → IsAscending n xs → IsStrictlyIncreasing xs
IsStrictlyIncreasing-IsAscending n [] h k inside = absurd (omega arith)
IsStrictlyIncreasing-IsAscending n (x ∷ []) h k inside = absurd (omega arith)
IsStrictlyIncreasing-IsAscending n (x ∷ y ∷ ys) h zero inside = omega (arith, h.1.0)
IsStrictlyIncreasing-IsAscending n (x ∷ y ∷ ys) h (suc k) inside =
    let next : suc k + 1 ≡ suc (k + 1) = omega arith in
    rw next (IsStrictlyIncreasing-IsAscending (suc x) (y ∷ ys) h.1 k (omega arith))

-- a place is among those that pass exactly where its member passes
has_number-places_from : {G : Type 0} (n x : ℕ) (test : G → Bool) (members : List G) (k : ℕ) (d : G) → x ≡ n + k → k < length members → has_number (places_from n test members) x ≡ test (get_or members k d)
has_number-places_from n x test [] k d is inside = absurd (omega arith)
has_number-places_from n x test (m ∷ ms) zero d is inside = step (test m)
  where
    rest : List ℕ
    rest = places_from (suc n) test ms

    step : (b : Bool) → has_number (cond b (n ∷ places_from (suc n) test ms) (places_from (suc n) test ms)) x ≡ b
    step true = rw (eq-eqb n x (omega arith)) refl
    step false = has_number-below x (suc n) (places_from (suc n) test ms) (omega arith) (IsAscending-places_from (suc n) test ms)
has_number-places_from n x test (m ∷ ms) (suc k) d is inside = step (test m) (has_number-places_from (suc n) x test ms k d (omega arith) (omega arith))
  where
    step : (b : Bool) → has_number (places_from (suc n) test ms) x ≡ test (get_or ms k d) → has_number (cond b (n ∷ places_from (suc n) test ms) (places_from (suc n) test ms)) x ≡ test (get_or ms k d)
    step true same = rw (ne_eqb n x (λ e. omega arith)) same
    step false same = same

-- ---- names

-- the number of a name is its place
pub number_of-place : (d : Dictionary) (q : List ℕ) → number_of d q ≡ place_in d.names q
number_of-place d q =
    position-map (λ (other : List ℕ). bytes_eq other q) (λ (n : List ℕ × List ℕ). n.0) d.names
    ∙ (λ j. position (λ (n : List ℕ × List ℕ). nat_list_eq_equiv.symm n.0 q j) d.names)

-- a name has its own place
place_in-name_at : (names : List (List ℕ × List ℕ)) → AreApart names → (p : ℕ) → p < length names → place_in names (name_at names p) ≡ Some p
place_in-name_at names apart p inside =
    position-is (λ (n : List ℕ × List ℕ). bytes_eq (name_at names p) n.0) names p ([], []) inside (nat_list_eq_equiv.refl (name_at names p))
    (λ k lt. nat_list_eq_equiv.symm (name_at names p) (name_at names k) ∙ apart k p lt inside)

-- a name that has no place is at none
place_in-missing : (names : List (List ℕ × List ℕ)) → AreApart names → (a : List ℕ) → place_in names a ≡ None → (p : ℕ) → p < length names → bytes_eq a (name_at names p) ≡ false
place_in-missing names apart a missing p inside =
    elim (cases_Bool (bytes_eq a (name_at names p))) [
      | inl same ↦
          let there : place_in names a ≡ Some p = ap (place_in names) (same_text a (name_at names p) (sym same)) ∙ place_in-name_at names apart p inside in
          absurd (cc)
      | inr other ↦ other
    ]

-- ---- what is kept, by numbers

-- what contracts see of names and of the places of the names of calls
abbrev pub numbered : List (List ℕ × List ℕ) → List (List ℕ) → Dictionary
numbered names groups = record { names = names; calls = map (names_at names) groups }

module _ (names : List (List ℕ × List ℕ)) (groups : List (List ℕ)) (apart : AreApart names) where
  -- a name at a place is the name of that place alone
  at_only : (i : ℕ) → i < length names → (p : ℕ) → p < length names → bytes_eq (name_at names i) (name_at names p) ≡ eqb p i
  at_only i inside = place-only names apart (name_at names i) i (place_in-name_at names apart i inside)

  -- the numbers of names at places are these places
  filter_map-names_at : (calls : List (List (List ℕ))) (places : List ℕ) → All (λ p. p < length names) places → filter_map (number_of (record { names = names; calls = calls })) (names_at names places) ≡ places
  filter_map-names_at calls [] placed = refl
  filter_map-names_at calls (p ∷ ps) placed =
      let here = number_of-place (record { names = names; calls = calls }) (name_at names p) ∙ place_in-name_at names apart p (All-head (λ q. q < length names) p ps placed) in
      let rest = filter_map-names_at calls ps (All-tail (λ q. q < length names) p ps placed) in λ j. cons_option (here j) (rest j)

  -- the list of a place has the numbers of its calls
  pub calls_of-place : (lists : List (List ℕ)) → IsKept (length names) groups lists → (i : ℕ) → i < length names → get_or lists i [] ≡ calls_of (numbered names groups) i
  calls_of-place lists kept i inside =
      kept.noted i
      ∙ sym (places_from-by names (name_at names i) (λ g. has_number g i) (is_among-names_at names (name_at names i) i (at_only i inside)) 0 groups kept.placed)

  -- the calls of a name are below their count
  pub calls_of-below : (i : ℕ) → All (λ call. call < length (numbered names groups).calls) (calls_of (numbered names groups) i)
  calls_of-below i = places_from-below 0 (length (numbered names groups).calls) (λ call. is_among call (name_at names i)) (numbered names groups).calls (omega arith)

  module _ (placed : All (All (λ p. p < length names)) groups) where
    -- the places of a call are the numbers of its names
    pub call_names_of-place : (call : ℕ) → call < length groups → get_or groups call [] ≡ call_names_of (numbered names groups) call
    call_names_of-place call inside =
        sym (ap (filter_map (number_of (numbered names groups))) (get_or-map (names_at names) groups call [] [] inside)
        ∙ filter_map-names_at (numbered names groups).calls (get_or groups call []) (placed call [] inside))

    -- no call has a name that isn't there
    are_synonyms-unknown : (a b : List ℕ) → (number_of (numbered names groups) a ≡ None) ⊎ (number_of (numbered names groups) b ≡ None) → are_synonyms (numbered names groups) a b ≡ false
    are_synonyms-unknown a b missing =
        list_any_none (λ call. is_among call a && is_among call b) (numbered names groups).calls
        (All-map (λ (call : List (List ℕ)). (is_among call a && is_among call b) ≡ false) (names_at names) groups
        (All-weaker (All (λ p. p < length names)) (λ (g : List ℕ). (is_among (names_at names g) a && is_among (names_at names g) b) ≡ false) never groups placed))
      where
        and_false : (x : Bool) → (x && false) ≡ false
        and_false true = refl
        and_false false = refl

        absent : (name : List ℕ) → number_of (numbered names groups) name ≡ None → (g : List ℕ) → All (λ p. p < length names) g → is_among (names_at names g) name ≡ false
        absent name none g in_names = is_among-never names name (place_in-missing names apart name (sym (number_of-place (numbered names groups) name) ∙ none)) g in_names

        never : (g : List ℕ) → All (λ p. p < length names) g → (is_among (names_at names g) a && is_among (names_at names g) b) ≡ false
        never g in_names = elim missing [
          | inl no_a ↦ ap (λ x. x && is_among (names_at names g) b) (absent a no_a g in_names)
          | inr no_b ↦ ap (λ x. is_among (names_at names g) a && x) (absent b no_b g in_names) ∙ and_false (is_among (names_at names g) a)
        ]

    -- a call is among those of a name exactly where the name is among those of the call
    both_ways_at : (n call : ℕ) → n < length names → call < length (numbered names groups).calls → has_number (calls_of (numbered names groups) n) call ≡ has_number (call_names_of (numbered names groups) call) n
    both_ways_at n call in_names in_calls =
        let inside : call < length groups = omega (arith, length-map groups (names_at names)) in
        has_number-places_from 0 call (λ c. is_among c (name_at names n)) (numbered names groups).calls call [] (omega arith) in_calls
        ∙ ap (λ c. is_among c (name_at names n)) (get_or-map (names_at names) groups call [] [] inside)
        ∙ is_among-names_at names (name_at names n) n (at_only n in_names) (get_or groups call []) (placed call [] inside)
        ∙ ap (λ xs. has_number xs n) (call_names_of-place call inside)

    -- names that are there match as their numbers do
    bond_at : (a b : List ℕ) (m n : ℕ) → number_of (numbered names groups) a ≡ Some m → number_of (numbered names groups) b ≡ Some n → bond_of (numbered names groups) a b ≡ bond_between (numbered names groups) m n
    bond_at a b m n is_m is_n =
        let d = numbered names groups in
        let at_n = sym (number_of-place d b) ∙ is_n in
        let here = named-from_place names a m (sym (number_of-place d a) ∙ is_m) in
        let there = named-from_place names b n at_n in
        let same : bytes_eq a b ≡ eqb m n =
        nat_list_eq_equiv.symm a b ∙ ap (bytes_eq b) (sym here.1) ∙ place-only names apart b n at_n m here.0 in
        let met : are_synonyms d a b ≡ have_common (calls_of d m) (calls_of d n) =
        sym (have_common-places_from 0 (λ c. is_among c (name_at names m)) (λ c. is_among c (name_at names n)) d.calls
        ∙ (λ j. list_any (λ c. is_among c (here.1 j) && is_among c (there.1 j)) d.calls)) in
        λ j. cond (same j) 2 (cond (met j) 1 0)

    -- names and bonds by numbers
    pub IsNumbered-numbered : IsNumbered (numbered names groups)
    IsNumbered-numbered = record {
      number = λ n inside. number_of-place (numbered names groups) (name_at names n) ∙ place_in-name_at names apart n inside;
      name = λ name n is. (named-from_place names name n (sym (number_of-place (numbered names groups) name) ∙ is)).1;
      bond = bond_at;
      unknown = λ a b missing. ap (λ met. cond (bytes_eq a b) 2 (cond met 1 0)) (are_synonyms-unknown a b missing);
      both_ways = both_ways_at;
      common = λ m n in_m in_n.
          let d = numbered names groups in
          list_any-same (has_number (calls_of d n)) (λ call. has_number (call_names_of d call) n) (calls_of d m)
          (All-weaker (λ call. call < length d.calls) (λ call. has_number (calls_of d n) call ≡ has_number (call_names_of d call) n) (λ call below. both_ways_at n call in_n below) (calls_of d m) (calls_of-below m));
    }

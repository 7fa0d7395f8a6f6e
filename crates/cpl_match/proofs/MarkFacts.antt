-- Marks at names, one port, one name or one call after another, and what they say of bonds.
use Rattle.std.proofs.Common.{◌≡◌, ℕ, zero, suc, ◌+◌, ◌<◌, ◌≤◌, Bool, true, false, cond, ◌==◌, ◌&&◌, ◌||◌, ltb, inl, inr, List, [], ◌∷◌, length, get_or, map, take, Option, Some, refl, sym, ap, ◌∙◌, arith}
use Rattle.std.proofs.lemmas.Bool.{cases_eq, cases_lt, eq-eqb, le-ltb, lt-ltb, ne_eqb}
use Rattle.std.proofs.lemmas.List.{length-map}
use Rattle.std.proofs.lemmas.List.Folds.{list_any_more}
use Rattle.std.proofs.lemmas.List.Quantifiers.{position-Some}
use Rattle.std.specs.List.{AllByRecursion, list_any, range_with_len}
use Rattle.std.specs.Str.{bytes_eq}
use Rattle.cpl_dict.specs.Dict.{Dictionary, bond_of, is_among}
use Rattle.cpl_dict.specs.Numbers.{IsNumbered, call_names_of, calls_of, has_number, have_common, name_of, number_of, places_from}
use Rattle.cpl_match.proofs.ListFacts.{list_any-marked, list_any-next, or-false}
use Rattle.cpl_match.specs.Marks.{AreBelow, has_bit, is_name, is_named, is_set, number_at, shares_call}
use Rattle.cpl_match.specs.declared.port.Port.{Port}

-- ---- numbers of names

-- a name's number is below how many names there are
pub number_of-below : (d : Dictionary) (name : List ℕ) (number : ℕ) → number_of d name ≡ Some number → number < length d.names
number_of-below d name number is =
    let found = position-Some (λ other. bytes_eq other name) (map (λ entry. entry.0) d.names) number [] is in
    let count = length-map {B = List ℕ} d.names (λ entry. entry.0) in
    omega (arith, found.0)

-- the numbers of ports are
pub number_of-ports_below : (d : Dictionary) (ports : List Port) → AreBelow (length d.names) (map (λ port. number_of d port.standard) ports)
number_of-ports_below d [] place name is = absurd (cc)
number_of-ports_below d (port ∷ ports) zero name is = number_of-below d port.standard name is
number_of-ports_below d (port ∷ ports) (suc place) name is = number_of-ports_below d ports place name is

-- the places of those that pass a test are within the list
places_from-below : {G : Type 0} (n m : ℕ) (test : G → Bool) (xs : List G) → m ≡ n + length xs → AllByRecursion (λ x. x < m) (places_from n test xs)
places_from-below n m test [] is = tt
places_from-below {G} n m test (x ∷ xs) is = step (test x) (places_from-below (suc n) m test xs (omega arith))
  where
    step : (b : Bool) → AllByRecursion (λ k. k < m) (places_from (suc n) test xs) → AllByRecursion (λ k. k < m) (cond b (n ∷ places_from (suc n) test xs) (places_from (suc n) test xs))
    step true rest = (omega arith, rest)
    step false rest = rest

-- ---- one step

-- the bits of one name more
pub list_any-name : (own names : List ℕ) (k bit bits more : ℕ) → k < length names → is_set bits bit ≡ list_any (λ name. has_bit own name bit) (take k names)
    → is_set more bit ≡ (is_set bits bit || has_bit own (get_or names k 0) bit) → is_set more bit ≡ list_any (λ name. has_bit own name bit) (take (k + 1) names)
list_any-name own names k bit bits more inside so_far next =
    next ∙ ap (λ b. b || has_bit own (get_or names k 0) bit) so_far ∙ sym (list_any_more (λ name. has_bit own name bit) names k 0 inside)

-- one call more
pub shares_call-next : (d : Dictionary) (own : List ℕ) (k name bit : ℕ) → shares_call d own (k + 1) name bit
    ≡ (shares_call d own k name bit || (has_number (call_names_of d k) name && list_any (λ other. has_bit own other bit) (call_names_of d k)))
shares_call-next d own k name bit =
    list_any-next (λ call. has_number (call_names_of d call) name && list_any (λ other. has_bit own other bit) (call_names_of d call)) k

-- the bits up to one more
ltb-next : (bit k : ℕ) → (ltb bit (k + 1)) ≡ (ltb bit k || k == bit)
ltb-next bit k =
    elim (cases_lt bit k) [
      | inl below ↦ let more : bit < k + 1 = omega arith in rw (lt-ltb bit k below, lt-ltb bit (k + 1) more) refl
      | inr above ↦
          elim (cases_eq k bit) [
            | inl same ↦ let more : bit < k + 1 = omega arith in rw (lt-ltb bit (k + 1) more, eq-eqb k bit same, le-ltb bit k above) refl
            | inr other ↦ let none : k + 1 ≤ bit = omega arith in rw (le-ltb bit (k + 1) none, ne_eqb k bit other, le-ltb bit k above) refl
          ]
    ]

-- one bit or another, beside what is there
either-and : (a b c : Bool) → ((a || b) && c) ≡ ((a && c) || (c && b))
either-and true b true = refl
either-and true true false = refl
either-and true false false = refl
either-and false true true = refl
either-and false false true = refl
either-and false true false = refl
either-and false false false = refl

-- a port more
is_named-step : (numbers : List (Option ℕ)) (first k name bit : ℕ) (here : Bool) → is_named numbers (first + k) name ≡ here
    → (ltb bit (k + 1) && is_named numbers (first + bit) name) ≡ ((ltb bit k && is_named numbers (first + bit) name) || (here && k == bit))
is_named-step numbers first k name bit here is =
    ap (λ b. b && is_named numbers (first + bit) name) (ltb-next bit k) ∙ either-and (ltb bit k) (k == bit) (is_named numbers (first + bit) name)
    ∙ ap (λ b. (ltb bit k && is_named numbers (first + bit) name) || b) moved
  where
    moved : (is_named numbers (first + bit) name && k == bit) ≡ (here && k == bit)
    moved =
        elim (cases_eq k bit) [
          | inl same ↦ ap (λ j. is_named numbers (first + j) name && k == bit) (sym same) ∙ ap (λ b. b && k == bit) is
          | inr other ↦ rw (ne_eqb k bit other) (neither (is_named numbers (first + bit) name) here)
        ]
      where
        neither : (a b : Bool) → (a && false) ≡ (b && false)
        neither true true = refl
        neither true false = refl
        neither false true = refl
        neither false false = refl

-- a port whose name the dictionary has
pub is_named-next : (numbers : List (Option ℕ)) (first k number name bit : ℕ) (before after : Bool) → number_at numbers (first + k) ≡ Some number
    → before ≡ (ltb bit k && is_named numbers (first + bit) name) → after ≡ (before || (name == number && k == bit)) → after ≡ (ltb bit (k + 1) && is_named numbers (first + bit) name)
is_named-next numbers first k number name bit before after is so_far next =
    next ∙ ap (λ b. b || (name == number && k == bit)) so_far ∙ sym (is_named-step numbers first k name bit (name == number) (ap (λ o. is_name o name) is))

-- and one whose name it hasn't
pub is_named-same : (numbers : List (Option ℕ)) (first k name bit : ℕ) → is_named numbers (first + k) name ≡ false
    → (ltb bit k && is_named numbers (first + bit) name) ≡ (ltb bit (k + 1) && is_named numbers (first + bit) name)
is_named-same numbers first k name bit is =
    sym (or-false (ltb bit k && is_named numbers (first + bit) name)) ∙ sym (is_named-step numbers first k name bit false is)

-- ---- all steps

-- what is marked at a name for a port whose name the dictionary has
pub shares_call-bond : (d : Dictionary) (own : List ℕ) (numbers : List (Option ℕ)) (first name bit number : ℕ) → IsNumbered d
    → ((other : ℕ) → has_bit own other bit ≡ is_named numbers (first + bit) other) → name < length d.names → number < length d.names → number_at numbers (first + bit) ≡ Some number
    → shares_call d own (length d.calls) name bit ≡ have_common (calls_of d name) (calls_of d number)
shares_call-bond d own numbers first name bit number laws noted inside other_inside is =
    let same : (other : ℕ) → has_bit own other bit ≡ (other == number) = λ other. noted other ∙ rw is refl in
    (λ i. list_any (λ call. has_number (call_names_of d call) name && list_any (λ other. same other i) (call_names_of d call)) (range_of d))
    ∙ list_any-marked (λ call. has_number (call_names_of d call) name) (λ call. has_number (call_names_of d call) number) (calls_of d name) (length d.calls)
    (λ call within. sym (laws.both_ways name call inside within)) (places_from-below 0 (length d.calls) (λ call. is_among call (name_of d name)) d.calls (omega arith))
    ∙ sym (laws.common name number inside other_inside)
  where
    range_of : Dictionary → List ℕ
    range_of d = range_with_len 0 (length d.calls)

-- ---- bonds

-- names with one number
pub bond_of-same : (d : Dictionary) (a b : List ℕ) (m n : ℕ) → IsNumbered d → number_of d a ≡ Some m → number_of d b ≡ Some n → m ≡ n → bond_of d a b ≡ 2
bond_of-same d a b m n laws is_a is_b same = laws.bond a b m n is_a is_b ∙ rw (eq-eqb m n same) refl

-- names with two numbers
pub bond_of-other : (d : Dictionary) (a b : List ℕ) (m n : ℕ) (shared : Bool) → IsNumbered d → number_of d a ≡ Some m → number_of d b ≡ Some n → (m ≡ n → ⊥)
    → shared ≡ have_common (calls_of d m) (calls_of d n) → bond_of d a b ≡ cond shared 1 0
bond_of-other d a b m n shared laws is_a is_b other is = laws.bond a b m n is_a is_b ∙ rw (ne_eqb m n other, ← is) refl

-- What a route sends from one PET to another.
use Rattle.std.proofs.Common.{◌≡◌, ℕ, suc, ◌+◌, ◌-◌, ◌<◌, ◌≤◌, ◌&&◌, Bool, true, false, eqb, ltb, List, [], ◌∷◌, ◌++◌, length, filter, refl, ap, ◌∙◌, inl, inr, arith, eqb-true}
use Rattle.std.specs.List.{Contains, flat_map, range_with_len}
use borrow.Author.Tests.{ltb-false}
use Rattle.std.proofs.lemmas.Bool.{cases_Bool, eq-eqb}
use Rattle.std.proofs.lemmas.List.{get_or_default}
use Rattle.std.proofs.lemmas.List.FromFn.{get_or-range_with_len, length-range_with_len}
use Rattle.cpl_grid.specs.Grid.{cells_in}
use Rattle.cpl_grid.specs.Owners.{IsPet, Layout, cells_of, owner_of, pets_in}
use Rattle.cpl_route.proofs.PickFacts.{listed-at}
use Rattle.cpl_route.proofs.RouteFacts.{rising-filter, rising-range}
use Rattle.cpl_route.specs.Picks.{has_list, is_listed}
use Rattle.cpl_route.specs.Routes.{AreSharedCells, IsRising, Leg, cells_between, has_cells, leg_between, legs_from, pets_of, pickers_of, route_of, shared_cells}
use Rattle.cpl_route.specs.declared.need.Need.{Need}

-- what a list contains is listed
listed-contains : (xs : List ℕ) (s : ℕ) → Contains xs s → is_listed xs s ≡ true
listed-contains xs s here = listed-at xs here.0 s here.1 (get_or_default xs here.0 0 s here.1 ∙ here.2)

-- what is listed, a list contains
contains-listed : (xs : List ℕ) (s : ℕ) → is_listed xs s ≡ true → Contains xs s
contains-listed [] s listed = absurd (cc)
contains-listed (x ∷ xs) s listed = elim (cases_Bool (eqb x s)) [
  | inl same ↦ (0, omega arith, eqb-true x s same)
  | inr differs ↦
      let rest : is_listed xs s ≡ true = rw differs at listed in
      let there = contains-listed xs s rest in
      (suc there.0, omega (arith, there.1), there.2)
]

-- what a list doesn't contain isn't listed
unlisted-contains : (xs : List ℕ) (s : ℕ) → ¬ Contains xs s → is_listed xs s ≡ false
unlisted-contains xs s missing = elim (cases_Bool (is_listed xs s)) [
  | inl listed ↦ absurd (missing (contains-listed xs s listed))
  | inr not_listed ↦ not_listed
]

-- numbers that follow one another contain those between
range-contains : (a n x : ℕ) → a ≤ x → x < a + n → Contains (range_with_len a n) x
range-contains a n x from within =
    let place : x - a < n = omega arith in
    let here : a + (x - a) ≡ x = omega arith in
    (x - a, omega (arith, length-range_with_len a n), get_or-range_with_len a n (x - a) x place ∙ here)

-- a PET that has a block is among those that have one
pub pets-contain : (layout : Layout) (pet : ℕ) → IsPet layout pet → Contains (pets_of layout) pet
pets-contain layout pet is = range-contains layout.first_pet (pets_in layout) pet is.from_first is.within

-- what a filter keeps of what is listed
listed-filter : (p : ℕ → Bool) (xs : List ℕ) (s : ℕ) → is_listed xs s ≡ true → p s ≡ true → is_listed (filter p xs) s ≡ true
listed-filter p [] s listed passes = listed
listed-filter p (x ∷ xs) s listed passes = elim (cases_Bool (eqb x s)) [
  | inl same ↦
      let here : p x ≡ true = ap p (eqb-true x s same) ∙ passes in
      rw (here, same) refl
  | inr differs ↦
      let rest : is_listed xs s ≡ true = rw differs at listed in
      let more = listed-filter p xs s rest passes in
      elim (cases_Bool (p x)) [
        | inl kept ↦ rw (kept, differs) more
        | inr dropped ↦ rw dropped more
      ]
]

-- a PET that has a list is among those that have one
pub pickers-contain : (needs : List Need) (pet : ℕ) → pet < 256 → has_list needs pet ≡ true → Contains (pickers_of needs) pet
unfolding pickers_of
pickers-contain needs pet byte has =
    let all : is_listed (range_with_len 0 256) pet ≡ true = listed-contains (range_with_len 0 256) pet (range-contains 0 256 pet (omega arith) (omega arith)) in
    contains-listed (pickers_of needs) pet (listed-filter (has_list needs) (range_with_len 0 256) pet all has)

-- a list without elements
no-elements : (xs : List ℕ) → ltb 0 (length xs) ≡ false → [] ≡ xs
no-elements [] none = refl
no-elements (x ∷ xs) none = absurd (let fails = ltb-false 0 (length (x ∷ xs)) none in omega arith)

-- a leg without cells has none
no-cells : (src : Layout) (is_needed : ℕ → ℕ → Bool) (from to : ℕ) → has_cells (leg_between src is_needed from to) ≡ false → [] ≡ shared_cells src is_needed from to
no-cells src is_needed from to none = no-elements (shared_cells src is_needed from to) none

-- legs of another sender in front
other-sender : (src : Layout) (is_needed : ℕ → ℕ → Bool) (receivers : List ℕ) (sender from to : ℕ) (rest : List Leg) → eqb sender from ≡ false
    → cells_between (legs_from src is_needed receivers sender ++ rest) from to ≡ cells_between rest from to
unfolding cells_between
other-sender src is_needed [] sender from to rest differs = refl
other-sender src is_needed (receiver ∷ receivers) sender from to rest differs =
    let more = other-sender src is_needed receivers sender from to rest differs in
    elim (cases_Bool (has_cells (leg_between src is_needed sender receiver))) [
      | inl some ↦ rw (some, differs) more
      | inr none ↦ rw none more
    ]

-- legs of the sender in front, among them the receiver's
own-leg : (src : Layout) (is_needed : ℕ → ℕ → Bool) (receivers : List ℕ) (from to : ℕ) (rest : List Leg) → is_listed receivers to ≡ true
    → has_cells (leg_between src is_needed from to) ≡ true
    → cells_between (legs_from src is_needed receivers from ++ rest) from to ≡ shared_cells src is_needed from to
unfolding cells_between
own-leg src is_needed [] from to rest listed has = absurd (cc)
own-leg src is_needed (receiver ∷ receivers) from to rest listed has = elim (cases_Bool (eqb receiver to)) [
  | inl same ↦
      let here : receiver ≡ to = eqb-true receiver to same in
      let some : has_cells (leg_between src is_needed from receiver) ≡ true = ap (λ t. has_cells (leg_between src is_needed from t)) here ∙ has in
      rw (some, eq-eqb from from refl, same) (ap (shared_cells src is_needed from) here)
  | inr differs ↦
      let further : is_listed receivers to ≡ true = rw differs at listed in
      let more = own-leg src is_needed receivers from to rest further has in
      elim (cases_Bool (has_cells (leg_between src is_needed from receiver))) [
        | inl some ↦ rw (some, eq-eqb from from refl, differs) more
        | inr none ↦ rw none more
      ]
]

-- nothing holds beside what doesn't
and-false : (b : Bool) → (b && false) ≡ false
and-false true = refl
and-false false = refl

-- legs of the sender in front, and none is the receiver's
no-leg : (src : Layout) (is_needed : ℕ → ℕ → Bool) (receivers : List ℕ) (from to : ℕ) (rest : List Leg)
    → (is_listed receivers to && has_cells (leg_between src is_needed from to)) ≡ false
    → cells_between (legs_from src is_needed receivers from ++ rest) from to ≡ cells_between rest from to
unfolding cells_between
no-leg src is_needed [] from to rest none = refl
no-leg src is_needed (receiver ∷ receivers) from to rest none = elim (cases_Bool (eqb receiver to)) [
  | inl same ↦
      let here : receiver ≡ to = eqb-true receiver to same in
      let without : has_cells (leg_between src is_needed from to) ≡ false = rw same at none in
      let without_here : has_cells (leg_between src is_needed from receiver) ≡ false = ap (λ t. has_cells (leg_between src is_needed from t)) here ∙ without in
      let further : (is_listed receivers to && has_cells (leg_between src is_needed from to)) ≡ false = rw without (and-false (is_listed receivers to)) in
      rw without_here (no-leg src is_needed receivers from to rest further)
  | inr differs ↦
      let further : (is_listed receivers to && has_cells (leg_between src is_needed from to)) ≡ false = rw differs at none in
      let more = no-leg src is_needed receivers from to rest further in
      elim (cases_Bool (has_cells (leg_between src is_needed from receiver))) [
        | inl some ↦ rw (some, eq-eqb from from refl, differs) more
        | inr without ↦ rw without more
      ]
]

-- what the legs of senders lead to no receiver
sent-none : (src : Layout) (is_needed : ℕ → ℕ → Bool) (receivers senders : List ℕ) (from to : ℕ)
    → (is_listed receivers to && has_cells (leg_between src is_needed from to)) ≡ false → cells_between (flat_map (legs_from src is_needed receivers) senders) from to ≡ []
unfolding cells_between
sent-none src is_needed receivers [] from to none = refl
sent-none src is_needed receivers (s ∷ senders) from to none =
    let legs = legs_from src is_needed receivers in
    let rest = flat_map legs senders in
    let more = sent-none src is_needed receivers senders from to none in
    elim (cases_Bool (eqb s from)) [
      | inl same ↦ ap (λ s. cells_between (legs s ++ rest) from to) (eqb-true s from same) ∙ no-leg src is_needed receivers from to rest none ∙ more
      | inr differs ↦ other-sender src is_needed receivers s from to rest differs ∙ more
    ]

-- what they lead to a receiver
sent-shared : (src : Layout) (is_needed : ℕ → ℕ → Bool) (receivers senders : List ℕ) (from to : ℕ) → is_listed senders from ≡ true → is_listed receivers to ≡ true
    → cells_between (flat_map (legs_from src is_needed receivers) senders) from to ≡ shared_cells src is_needed from to
sent-shared src is_needed receivers [] from to sender receiver = absurd (cc)
sent-shared src is_needed receivers (s ∷ senders) from to sender receiver =
    let legs = legs_from src is_needed receivers in
    let rest = flat_map legs senders in
    elim (cases_Bool (eqb s from)) [
      | inl same ↦
          let here : cells_between (legs s ++ rest) from to ≡ cells_between (legs from ++ rest) from to = ap (λ s. cells_between (legs s ++ rest) from to) (eqb-true s from same) in
          elim (cases_Bool (has_cells (leg_between src is_needed from to))) [
            | inl has ↦ here ∙ own-leg src is_needed receivers from to rest receiver has
            | inr without ↦
                let none : (is_listed receivers to && has_cells (leg_between src is_needed from to)) ≡ false = rw (receiver, without) refl in
                here ∙ no-leg src is_needed receivers from to rest none ∙ sent-none src is_needed receivers senders from to none ∙ no-cells src is_needed from to without
          ]
      | inr differs ↦
          let further : is_listed senders from ≡ true = rw differs at sender in
          other-sender src is_needed receivers s from to rest differs ∙ sent-shared src is_needed receivers senders from to further receiver
    ]

-- what others lead
sent-nothing : (src : Layout) (is_needed : ℕ → ℕ → Bool) (receivers senders : List ℕ) (from to : ℕ) → is_listed senders from ≡ false
    → cells_between (flat_map (legs_from src is_needed receivers) senders) from to ≡ []
unfolding cells_between
sent-nothing src is_needed receivers [] from to none = refl
sent-nothing src is_needed receivers (s ∷ senders) from to none = elim (cases_Bool (eqb s from)) [
  | inl same ↦ absurd (let bad : true ≡ false = rw same at none in cc)
  | inr differs ↦
      let further : is_listed senders from ≡ false = rw differs at none in
      other-sender src is_needed receivers s from to (flat_map (legs_from src is_needed receivers) senders) differs
      ∙ sent-nothing src is_needed receivers senders from to further
]

-- the cells that two PETs share ascend
pub shared-rising : (src : Layout) (is_needed : ℕ → ℕ → Bool) (from to : ℕ) → IsRising 1 (shared_cells src is_needed from to)
unfolding shared_cells cells_of
shared-rising src is_needed from to =
    rising-filter (is_needed to) 1 (cells_of src from) (rising-filter (λ s. eqb (owner_of src s) from) 1 (range_with_len 1 (cells_in src.grid)) (rising-range 1 (cells_in src.grid)))

-- what a route sends
pub shared-cells : (src : Layout) (is_needed : ℕ → ℕ → Bool) (receivers : List ℕ) → AreSharedCells src is_needed receivers
unfolding route_of
shared-cells src is_needed receivers = record {
  shared = λ from to owner receiver.
      sent-shared src is_needed receivers (pets_of src) from to (listed-contains (pets_of src) from owner) (listed-contains receivers to receiver);
  no_owner = λ from to missing. sent-nothing src is_needed receivers (pets_of src) from to (unlisted-contains (pets_of src) from missing);
  no_receiver = λ from to missing. sent-none src is_needed receivers (pets_of src) from to (rw (unlisted-contains receivers to missing) refl);
  rising = λ from to. shared-rising src is_needed from to;
}

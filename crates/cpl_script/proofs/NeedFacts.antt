-- What weights need of each PET is in order; and nobody gets anything where nobody needs anything.
use Rattle.std.proofs.Common.{◌≡◌, ℕ, zero, suc, ◌+◌, ◌≤◌, Bool, true, List, [], ◌∷◌, filter, length, map, ap, ◌∙◌, sym, subst, refl, inl, inr, arith}
use Rattle.std.specs.Prelude.{IfOk, Option, Result, ◌&&◌, nat_le, nat_lt}
use Rattle.std.specs.List.{flat_map, range_with_len}
use Rattle.std.proofs.lemmas.Bool.{and_from, cases_Bool, le-leb, lt-ltb}
use Rattle.std.proofs.lemmas.List.FromFn.{get_or-map-range_with_len, length-map-range_with_len}
use Rattle.cpl_grid.specs.Owners.{Layout, pets_in}
use Rattle.cpl_route.specs.Routes.{Leg, ArePetsDistinct, are_ascending, are_ascending_from, is_ascending, legs_from, pets_of, pick_route, pickers_of, route_of, is_picked}
use Rattle.cpl_route.specs.declared.need.Need.{Need}
use Rattle.cpl_smm.specs.Needs.{need_of, needs_of}
use Rattle.cpl_smm.specs.Rows.{Table}
use Rattle.cpl_base.specs.declared.memory.Memory.{Memory}
use Rattle.cpl_match.specs.declared.port.Pair.{Pair}
use Rattle.cpl_script.specs.Systems.{link_route}
use Rattle.cpl_script.proofs.RangeFacts.{filter-none, flat_map-none}

-- numbers of a range that pass a test ascend
filter-ascends : (p : ℕ → Bool) (least a n : ℕ) → least ≤ a → is_ascending least (filter p (range_with_len a n)) ≡ true
filter-ascends p least a zero from = refl
filter-ascends p least a (suc n) from = elim (cases_Bool (p a)) [
  | inl passes ↦ rw passes (and_from (nat_le least a) (is_ascending a (filter p (range_with_len (a + 1) n))) (le-leb least a from) (filter-ascends p a (a + 1) n (omega arith)))
  | inr fails ↦ rw fails (filter-ascends p least (a + 1) n (omega arith))
]

-- the needs of PETs that follow one another
needs-from : (table : Table) (layout : Layout) (free a n : ℕ) → free ≤ a → a + n ≤ 256 → are_ascending_from free (map (need_of table layout) (range_with_len a n)) ≡ true
needs-from table layout free a zero from to = refl
needs-from table layout free a (suc n) from to =
    let need = need_of table layout a in
    let rest = map (need_of table layout) (range_with_len (a + 1) n) in
    and_from (nat_le free a && nat_lt a 256 && is_ascending 0 need.cells) (are_ascending_from (a + 1) rest)
    (and_from (nat_le free a && nat_lt a 256) (is_ascending 0 need.cells)
    (and_from (nat_le free a) (nat_lt a 256) (le-leb free a from) (lt-ltb a 256 (omega arith)))
    (filter-ascends _ 0 1 table.src_cells (omega arith)))
    (needs-from table layout (a + 1) (a + 1) n (omega arith) (omega arith))

-- the needs of all PETs
pub needs-ascend : (table : Table) (layout : Layout) → layout.first_pet + pets_in layout ≤ 256 → are_ascending (needs_of table layout) ≡ true
needs-ascend table layout few = needs-from table layout 0 layout.first_pet (pets_in layout) (omega arith) few

-- each PET has one
pub needs-distinct : (table : Table) (layout : Layout) → ArePetsDistinct (needs_of table layout)
needs-distinct table layout i j other first second same =
    let f = need_of table layout in
    let count = length-map-range_with_len f layout.first_pet (pets_in layout) in
    let at_first = get_or-map-range_with_len f layout.first_pet (pets_in layout) i (layout.first_pet + i) other (omega (arith, count)) refl in
    let at_second = get_or-map-range_with_len f layout.first_pet (pets_in layout) j (layout.first_pet + j) other (omega (arith, count)) refl in
    let one : layout.first_pet + i ≡ layout.first_pet + j = sym (ap (λ (need : Need). need.pet) at_first) ∙ same ∙ ap (λ (need : Need). need.pet) at_second in
    omega arith

-- nobody gets anything
pub pick-none : (src : Layout) → pick_route src [] ≡ []
unfolding route_of pickers_of
pick-none src =
    ap (λ (pets : List ℕ). flat_map (legs_from src (is_picked []) pets) (pets_of src)) (filter-none (range_with_len 0 256)) ∙ flat_map-none (legs_from src (is_picked []) []) (λ pet. refl) (pets_of src)

-- a route without pairs is empty
pub route-none : (other src dst : Layout) (weights : Option Table) (pairs : List Pair) (route : Result (List Leg) Memory) → length pairs ≡ 0 → IfOk route (λ legs. legs ≡ pick_route other []) → IfOk route (λ legs. legs ≡ link_route src dst weights pairs)
route-none other src dst weights [] route none is = subst (λ (legs : List Leg). IfOk route (λ r. r ≡ legs)) (pick-none other) is
route-none other src dst weights (pair ∷ pairs) route none is = absurd (omega arith)

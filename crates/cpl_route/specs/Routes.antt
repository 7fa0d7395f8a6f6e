-- Routes: which cells each PET sends to each other.
use Rattle.std.specs.Prelude.{◌≡◌, ℕ, ◌+◌, ◌<◌, ◌≤◌, ◌==◌, ◌||◌, ◌&&◌, ℤ, Bool, true, not, nat_le, slice_index_or, Result, Ok, Err, Some, slice_get, nat_lt, List, [], length, map, filter, ◌∷◌, sum_by, if◌then◌else◌}
use Rattle.std.specs.List.{All, Contains, flat_map, list_any, range_with_len}
use Rattle.cpl_grid.specs.Grid.{IsOffset, cells_in, neighbour_of}
use Rattle.cpl_grid.specs.Owners.{Layout, cells_of, owner_of, pets_in}
use Rattle.cpl_route.specs.declared.fault.RouteFault.{RouteFault}
use Rattle.cpl_route.specs.declared.fault.RouteFault.TheVariants.{SizeDiffers}
use Rattle.cpl_route.specs.declared.need.Need.{Need}

-- the PETs that have a block, ascending
abbrev pub pets_of : Layout → List ℕ
pets_of layout = range_with_len layout.first_pet (pets_in layout)

-- the numbers rise from one on, and none comes twice
abbrev pub IsRising : ℕ → List ℕ → Type 0
IsRising free [] = Unit {0}
IsRising free (x ∷ xs) = (free ≤ x) × IsRising (x + 1) xs

-- what one PET sends another: the cells, ascending
pub record Leg : Type 0 where
  pub from : ℕ
  pub to : ℕ
  pub cells : List ℕ

-- of the cells that a PET owns, those that another needs, ascending
unfoldable pub shared_cells : Layout → (ℕ → ℕ → Bool) → ℕ → ℕ → List ℕ
shared_cells src is_needed from to = filter (is_needed to) (cells_of src from)

-- what a PET sends another
abbrev pub leg_between : Layout → (ℕ → ℕ → Bool) → ℕ → ℕ → Leg
leg_between src is_needed from to =
    record { from = from; to = to; cells = shared_cells src is_needed from to }

-- there are cells to send
abbrev pub has_cells : Leg → Bool
has_cells leg = nat_lt 0 (length leg.cells)

-- what a PET sends to each receiver to which it sends cells
abbrev pub legs_from : Layout → (ℕ → ℕ → Bool) → List ℕ → ℕ → List Leg
legs_from src is_needed receivers from = filter has_cells (map (leg_between src is_needed from) receivers)

-- what each owner sends to each receiver: `is_needed pet s` says whether the PET needs the cell
unfoldable pub route_of : Layout → (ℕ → ℕ → Bool) → List ℕ → List Leg
route_of src is_needed receivers = flat_map (legs_from src is_needed receivers) (pets_of src)

-- a PET needs the cells that it owns
abbrev pub is_owned : Layout → ℕ → ℕ → Bool
is_owned dst pet s = owner_of dst s == pet

-- a redistribution: each cell goes from its owner to its owner
abbrev pub redist_route : Layout → Layout → List Leg
redist_route src dst = route_of src (is_owned dst) (pets_of dst)

-- a redistribution, or the fault that the grids have unequal numbers of cells
abbrev pub redist_answer : Layout → Layout → Result (List Leg) RouteFault
redist_answer src dst =
    if cells_in src.grid == cells_in dst.grid then Ok (redist_route src dst)
    else Err (SizeDiffers (cells_in src.grid) (cells_in dst.grid))

-- the offsets reach at most two columns and two rows
abbrev pub AreOffsets : List (ℤ × ℤ) → Type 0
AreOffsets offsets = All (λ offset. IsOffset offset.0 × IsOffset offset.1) offsets

-- a cell is a neighbour, at one of the offsets, of a cell of the PET
abbrev pub is_neighbour : Layout → List (ℤ × ℤ) → ℕ → ℕ → Bool
is_neighbour layout offsets pet s =
    list_any (λ t. list_any (λ offset. neighbour_of layout.grid t offset.0 offset.1 == s) offsets) (cells_of layout pet)

-- a PET needs the neighbours of its cells that aren't its own
abbrev pub is_halo : Layout → List (ℤ × ℤ) → ℕ → ℕ → Bool
is_halo layout offsets pet s = not (owner_of layout s == pet) && is_neighbour layout offsets pet s

-- the halo: each PET gets the neighbours of its cells from their owners
abbrev pub halo_route : Layout → List (ℤ × ℤ) → List Leg
halo_route layout offsets = route_of layout (is_halo layout offsets) (pets_of layout)

-- the PET's list has the cell
abbrev pub is_picked : List Need → ℕ → ℕ → Bool
is_picked needs pet s = list_any (λ need. need.pet == pet && list_any (λ t. t == s) need.cells) needs

-- the PETs that have a list, ascending
unfoldable pub pickers_of : List Need → List ℕ
pickers_of needs = filter (λ pet. list_any (λ need. need.pet == pet) needs) (range_with_len 0 256)

-- each PET gets the cells of its list from their owners
abbrev pub pick_route : Layout → List Need → List Leg
pick_route src needs = route_of src (is_picked needs) (pickers_of needs)

-- no two lists are of one PET
abbrev pub ArePetsDistinct : List Need → Type 0
ArePetsDistinct needs =
    (i j : ℕ) (other : Need) → i < length needs → j < length needs
    → (slice_index_or needs i other).pet ≡ (slice_index_or needs j other).pet → i ≡ j

-- each number is at least the one before it, and the first at least the given one
abbrev pub is_ascending : ℕ → List ℕ → Bool
is_ascending least [] = true
is_ascending least (x ∷ xs) = nat_le least x && is_ascending x xs

-- the lists are of PETs from one on, ascending and each once, and the cells of each ascend, perhaps with repeats
abbrev pub are_ascending_from : ℕ → List Need → Bool
are_ascending_from free [] = true
are_ascending_from free (need ∷ needs) =
    nat_le free need.pet && nat_lt need.pet 256 && is_ascending 0 need.cells && are_ascending_from (need.pet + 1) needs

-- the lists are in the order of their PETs, and their cells ascend
abbrev pub are_ascending : List Need → Bool
are_ascending needs = are_ascending_from 0 needs

-- a leg leads from one PET to another
abbrev pub is_between : ℕ → ℕ → Leg → Bool
is_between from to leg = leg.from == from && leg.to == to

-- the cells that one PET sends another, none where no leg leads there
unfoldable pub cells_between : List Leg → ℕ → ℕ → List ℕ
cells_between [] from to = []
cells_between (leg ∷ legs) from to = if is_between from to leg then leg.cells else cells_between legs from to

-- between which PETs the legs lead
abbrev pub ends_of : List Leg → List (ℕ × ℕ)
ends_of legs = map (λ leg. (leg.from, leg.to)) legs

-- how many cells are sent
abbrev pub cells_sent : List Leg → ℕ
cells_sent legs = sum_by (λ leg. length leg.cells) legs

-- one pair of PETs comes before another: by the first of each, then by the second
abbrev pub is_before : (ℕ × ℕ) → (ℕ × ℕ) → Bool
is_before a b = nat_lt a.0 b.0 || (a.0 == b.0 && nat_lt a.1 b.1)

-- each pair comes before those behind it
abbrev pub AreAscending : List (ℕ × ℕ) → Type 0
AreAscending pairs =
    (i j : ℕ) (a b : ℕ × ℕ) → i < j → slice_get pairs i ≡ Some a → slice_get pairs j ≡ Some b → is_before a b ≡ true

-- what holds of the legs of a route: their pairs ascend, and each has cells
pub record AreLegs (legs : List Leg) : Type 0 where
  pub ascending : AreAscending (ends_of legs)
  pub some : All (λ leg. 0 < length leg.cells) legs

-- What a route sends from one PET to another: from an owner to a receiver the cells that they share, and nothing between others. Shared
-- cells ascend, each once, from 1 on.
pub record AreSharedCells (src : Layout) (is_needed : ℕ → ℕ → Bool) (receivers : List ℕ) : Type 0 where
  pub shared : (from to : ℕ) → Contains (pets_of src) from → Contains receivers to
      → cells_between (route_of src is_needed receivers) from to ≡ shared_cells src is_needed from to
  pub no_owner : (from to : ℕ) → ¬ Contains (pets_of src) from → cells_between (route_of src is_needed receivers) from to ≡ []
  pub no_receiver : (from to : ℕ) → ¬ Contains receivers to → cells_between (route_of src is_needed receivers) from to ≡ []
  pub rising : (from to : ℕ) → IsRising 1 (shared_cells src is_needed from to)

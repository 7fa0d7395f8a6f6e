-- Which source cells each PET of a destination needs.
use Rattle.std.specs.Prelude.{ℕ, Bool, ◌==◌, List, filter, map}
use Rattle.std.specs.List.{list_any, range_with_len}
use Rattle.cpl_grid.specs.Owners.{Layout, cells_of, pets_in}
use Rattle.cpl_route.specs.declared.need.Need.{Need}
use Rattle.cpl_smm.specs.Rows.{Entry, Table, row_at}

-- a row takes from this source cell
abbrev pub has_source : ℕ → List Entry → Bool
has_source src row = list_any (λ entry. entry.0 == src) row

-- the row of some cell of a PET takes from this source cell
abbrev pub is_needed : Table → Layout → ℕ → ℕ → Bool
is_needed table layout pet src = list_any (λ dst. has_source src (row_at table dst)) (cells_of layout pet)

-- the source cells that a PET needs, ascending
abbrev pub need_of : Table → Layout → ℕ → Need
need_of table layout pet = record {
  pet = pet;
  cells = filter (is_needed table layout pet) (range_with_len 1 table.src_cells);
}

-- what each PET needs that has a block, the PETs ascending
abbrev pub needs_of : Table → Layout → List Need
needs_of table layout = map (need_of table layout) (range_with_len layout.first_pet (pets_in layout))

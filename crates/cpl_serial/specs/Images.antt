-- Over how many cells weights lead, and what an entry of a row takes.
use Rattle.std.specs.Prelude.{◌≡◌, ℕ, ℤ, All, List, length, map, take}
use Rattle.std.specs.List.{range_with_len}
use Rattle.cpl_base.specs.Numbers.{IsValue}
use Rattle.cpl_comp.specs.Worlds.{cell_value}
use Rattle.cpl_script.specs.Transfers.{weighted_value}
use Rattle.cpl_smm.specs.Rows.{Entry, Table, row_at}

-- a table of weights leads from so many source cells, and has a row for each of so many destination cells
pub record IsTableOver (table : Table) (src_cells dst_cells : ℕ) : Type 0 where
  pub sources : table.src_cells ≡ src_cells
  pub rows : length table.rows ≡ dst_cells

-- the source value that an entry of a row takes
abbrev pub gathered_value : List ℤ → Entry → ℤ
gathered_value source entry = cell_value source entry.0

-- A list begins with what the first so many entries of a row take.
pub record IsGatheredTo (k : ℕ) (row : List Entry) (source old new : List ℤ) : Type 0 where
  pub values : take k new ≡ map (gathered_value source) (take k row)
  pub count : length new ≡ length old

-- what the row of a destination cell makes of source values
abbrev pub row_value : Table → List ℤ → ℕ → ℤ
row_value table source s = weighted_value (cell_value source) (row_at table s)

-- The first so many destination cells have their images.
pub record IsImagedTo (k : ℕ) (table : Table) (source old new : List ℤ) : Type 0 where
  pub values : take k new ≡ map (row_value table source) (range_with_len 1 k)
  pub within : All IsValue (take k new)
  pub count : length new ≡ length old

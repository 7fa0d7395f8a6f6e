-- Weights row by row: for each destination cell the source cells that it takes from, with their weights.
use Rattle.std.specs.Prelude.{ℕ, ℤ, ◌-◌, ◌≤◌, Bool, ◌&&◌, ◌==◌, List, [], All, map, length, find, slice_index_or, Option, option_map}
use Rattle.std.specs.List.{filter_map, range_with_len}
use Rattle.std.specs.List.Sorted.{IsStrictlyIncreasing}
use Rattle.cpl_smm.specs.Records.{Factor, IsWeight}

-- a source cell and its weight
abbrev pub Entry : Type 0
Entry = ℕ × ℤ

-- The weights of a file: how many source cells there are, how many records it has, and the row of each destination cell.
pub record Table : Type 0 where
  pub src_cells : ℕ
  pub records : ℕ
  pub rows : List (List Entry)

-- a factor leads from this source cell to this destination cell
abbrev pub is_pair : ℕ → ℕ → Factor → Bool
is_pair src dst factor = factor.src == src && factor.dst == dst

-- a source cell and its weight in the row of a destination cell, if a factor leads from one to the other
abbrev pub entry_between : List Factor → ℕ → ℕ → Option Entry
entry_between factors dst src = option_map (λ factor. (src, factor.weight)) (find (is_pair src dst) factors)

-- the row of a destination cell: of all source cells, ascending, those from which a factor leads to it, each with its weight
unfoldable pub row_of : ℕ → List Factor → ℕ → List Entry
row_of src_cells factors dst = filter_map (entry_between factors dst) (range_with_len 1 src_cells)

-- factors row by row, over so many source and destination cells
abbrev pub table_of : ℕ → ℕ → List Factor → Table
table_of src_cells dst_cells factors = record {
  src_cells = src_cells;
  records = length factors;
  rows = map (row_of src_cells factors) (range_with_len 1 dst_cells);
}

-- the row of a destination cell, which is counted from 1
abbrev pub row_at : Table → ℕ → List Entry
row_at table dst = slice_index_or table.rows (dst - 1) []

-- Source cells ascend, and are from 1 to the number of source cells; weights are in range.
pub record IsRow (src_cells : ℕ) (row : List Entry) : Type 0 where
  pub ascending : IsStrictlyIncreasing (map (λ entry. entry.0) row)
  pub sources : All (λ entry. (1 ≤ entry.0) × (entry.0 ≤ src_cells)) row
  pub weights : All (λ entry. IsWeight entry.1) row
  pub few : length row ≤ src_cells

-- How the code merges two lists of rows, row by row.
use Rattle.std.specs.Prelude.{◌≡◌, ℕ, ◌+ℤ◌, ◌*◌, ◌^◌, ◌≤◌, if◌then◌else◌, List, [], ◌∷◌, unsigned_abs}
use Rattle.cpl_trace.specs.Rows.{IsAscending, has_row, is_before, sum_at}
use Rattle.cpl_trace.specs.declared.row.TraceRow.{TraceRow}

-- a row with the sum of another added
abbrev pub joined : TraceRow → TraceRow → TraceRow
joined row other = record row { sum = row.sum +ℤ other.sum }

-- a row and what is behind it, merged with other rows
abbrev pub merge_row : TraceRow → (List TraceRow → List TraceRow) → List TraceRow → List TraceRow
merge_row row merge [] = row ∷ merge []
merge_row row merge (other ∷ others) =
    if is_before row other then row ∷ merge (other ∷ others)
    else if is_before other row then other ∷ merge_row row merge others
    else joined row other ∷ merge others

-- two lists, merged
abbrev pub merge_rows : List TraceRow → List TraceRow → List TraceRow
merge_rows [] others = others
merge_rows (row ∷ rows) others = merge_row row (merge_rows rows) others

-- the rows are those that are given, ascending, with sums for each operation and field
pub record IsSummed (given rows : List TraceRow) : Type 0 where
  pub ascending : IsAscending rows
  pub keys : (op field : ℕ) → has_row op field rows ≡ has_row op field given
  pub sums : (op field : ℕ) → sum_at op field rows ≡ sum_at op field given

-- a sum of so many small ones
abbrev pub IsWithin : ℕ → TraceRow → Type 0
IsWithin count row = unsigned_abs row.sum ≤ count * 2 ^ 100

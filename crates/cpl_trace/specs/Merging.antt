-- What logs are merged to.
use Rattle.std.specs.Prelude.{◌≡◌, ℕ, List, All}
use Rattle.std.specs.List.{flat_map}
use Rattle.cpl_trace.specs.Logs.{Log}
use Rattle.cpl_trace.specs.Rows.{AgreesWith, IsAscending, IsSmall, has_row, sum_at}
use Rattle.cpl_trace.specs.declared.row.TraceRow.{TraceRow}

-- the rows of all logs, log by log
abbrev pub rows_of : List Log → List TraceRow
rows_of logs = flat_map (λ log. log.rows) logs

-- logs that may be merged: each is ascending with small sums, and rows of one operation and one field agree
pub record AreLogs (logs : List Log) : Type 0 where
  pub ascending : All (λ log. IsAscending log.rows) logs
  pub small : All (λ log. All IsSmall log.rows) logs
  pub agree : All (AgreesWith (rows_of logs)) (rows_of logs)

-- The rows are the given ones, merged: ascending, so one for each operation and field; for those that some given row has; with
-- the sum of all given rows of that operation and field; and like each of these in the other columns.
pub record IsMerged (given rows : List TraceRow) : Type 0 where
  pub ascending : IsAscending rows
  pub keys : (op field : ℕ) → has_row op field rows ≡ has_row op field given
  pub sums : (op field : ℕ) → sum_at op field rows ≡ sum_at op field given
  pub columns : All (AgreesWith given) rows

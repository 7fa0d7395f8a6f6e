-- The log of one PET.
use Rattle.std.specs.Prelude.{ℕ, List}
use Rattle.cpl_trace.specs.declared.row.TraceRow.{TraceRow}

-- the rows so far, and how many more there is room for
pub record Log : Type 0 where
  pub rows : List TraceRow
  pub room : ℕ

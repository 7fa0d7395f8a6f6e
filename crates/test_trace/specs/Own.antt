-- Rows of the tests: their columns but the sum follow from the operation and the field.
use Rattle.std.specs.Prelude.{◌≡◌, pos}
use Rattle.cpl_trace.specs.declared.row.TraceRow.{TraceRow}

pub record IsOwn (row : TraceRow) : Type 0 where
  pub component : row.component ≡ row.field
  pub phase : row.phase ≡ row.field
  pub stamp : row.stamp ≡ pos row.op

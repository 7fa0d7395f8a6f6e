-- The rows of the tables that belong to the run as a whole.
use Rattle.std.specs.Prelude.{ℕ, List, [], Option, Some, None}
use Rattle.cpl_config.specs.Items.{table_under}
use Rattle.cpl_config.specs.declared.entry.Entry.{Entry}
use Rattle.cpl_config.specs.declared.row.Row.{Row}
use Rattle.cpl_config.specs.declared.row.Table.{Table}

-- the rows of a table, none where there is no table
abbrev pub rows_in : Option Table → List Row
rows_in None = []
rows_in (Some table) = table.rows

-- the rows of the table of a label, none where it isn't there
abbrev pub rows_under : List ℕ → List Entry → List Row
rows_under label entries = rows_in (table_under label entries)

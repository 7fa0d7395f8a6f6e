-- Where the items of a component stand: their labels begin with its name.
use Rattle.std.specs.Prelude.{ℕ, List, [], ◌++◌, Option, Some, None}
use Rattle.cpl_config.specs.Items.{table_under, value_under}
use Rattle.cpl_config.specs.declared.entry.Entry.{Entry}
use Rattle.cpl_config.specs.declared.row.Row.{Row}
use Rattle.cpl_config.specs.declared.row.Table.{Table}

-- the values of a component's value item, if it has one
abbrev pub own_values : List Entry → List ℕ → List ℕ → Option Row
own_values entries component part = value_under (component ++ part) entries

-- the rows of a table, none where there is no table
abbrev pub rows_in : Option Table → List Row
rows_in None = []
rows_in (Some table) = table.rows

-- the rows of a component's table, none where it has none
abbrev pub own_rows : List Entry → List ℕ → List ℕ → List Row
own_rows entries component part = rows_in (table_under (component ++ part) entries)

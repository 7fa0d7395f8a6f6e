-- The code's own: what reading one line does to the entries so far and to the table that is open.
use Rattle.std.specs.Prelude.{◌≡◌, ℕ, if◌then◌else◌, List, [], ◌∷◌, ◌++◌, Option, Some, None, is_some, Result, Ok, Err}
use Rattle.std.specs.List.{All}
use Rattle.cpl_config.specs.declared.entry.Entry.{Entry}
use Rattle.cpl_config.specs.declared.fault.ItemFault.{ItemFault}
use Rattle.cpl_config.specs.declared.fault.ItemFault.TheVariants.{LabelTwice}
use Rattle.cpl_config.specs.declared.reading.OpenTable.{OpenTable}
use Rattle.cpl_config.specs.declared.row.Row.{Row}
use Rattle.cpl_config.specs.declared.row.Table.{Table}
use Rattle.cpl_config.specs.Items.{IsShort, WordLine, line_fault, row_of, table_entry, table_under, value_entry, value_under}
use Rattle.cpl_config.specs.Words.{is_table_end, table_label, value_item}

-- the entries so far, and the table that is open, if one is: its label, and its rows so far
abbrev pub Progress : Type 0
Progress = List Entry × Option (List ℕ × Table)

-- the label and the rows so far of a table that is being read
abbrev pub table_so_far : OpenTable → List ℕ × Table
table_so_far open_table = (open_table.label, record { line = open_table.line; rows = open_table.rows.items })

-- The table can be added to the entries: no table of its label stood before, and its rows are short.
pub record CanJoin (entries : List Entry) (open_table : OpenTable) : Type 0 where
  pub fresh : table_under open_table.label entries ≡ None
  pub short : All IsShort open_table.rows.items

-- one row more
abbrev pub with_row : Table → Row → Table
with_row table row = record { line = table.line; rows = table.rows ++ row ∷ [] }

-- behind a line that opens the table of that label
abbrev pub progress_by_opening : List Entry → List ℕ → ℕ → Result Progress ItemFault
progress_by_opening entries label number =
    if is_some (table_under label entries) then Err (LabelTwice number) else Ok (entries, Some (label, record { line = number; rows = [] }))

-- behind a line that opens no table, by the value item that it is
abbrev pub progress_by_value : List Entry → WordLine → Option (List ℕ × List (List ℕ)) → Result Progress ItemFault
progress_by_value entries line None = Err (line_fault line)
progress_by_value entries line (Some value) =
    if is_some (value_under value.0 entries) then Err (LabelTwice line.number)
    else Ok (entries ++ value_entry value.0 (record { line = line.number; words = value.1 }) ∷ [], None)

-- behind a line outside of tables, by the label of the table that it opens
abbrev pub progress_by_label : List Entry → WordLine → Option (List ℕ) → Result Progress ItemFault
progress_by_label entries line None = progress_by_value entries line (value_item line.words)
progress_by_label entries line (Some label) = progress_by_opening entries label line.number

-- behind a line outside of tables
abbrev pub progress_outside : List Entry → WordLine → Result Progress ItemFault
progress_outside entries line = progress_by_label entries line (table_label line.words)

-- behind a line of the table that is open
abbrev pub progress_inside : List Entry → List ℕ × Table → WordLine → Progress
progress_inside entries table line =
    if is_table_end line.words then (entries ++ table_entry table.0 table.1 ∷ [], None) else (entries, Some (table.0, with_row table.1 (row_of line)))

-- behind a line, by the table that is open before it, if one is
abbrev pub progress_of : List Entry → Option (List ℕ × Table) → WordLine → Result Progress ItemFault
progress_of entries None line = progress_outside entries line
progress_of entries (Some table) line = Ok (progress_inside entries table line)

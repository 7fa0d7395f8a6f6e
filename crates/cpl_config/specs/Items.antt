-- The items of a resource file: value items and tables under their labels, in the order of the file; or the first faulty line.
use Rattle.std.specs.Prelude.{ℕ, ◌<◌, ◌^◌, Bool, true, false, not, if◌then◌else◌, List, [], ◌∷◌, ◌++◌, length, map, Option, Some, None, is_some, Result, Ok, Err}
use Rattle.std.specs.List.{All, join_with_byte, list_any, take_while}
use Rattle.std.specs.Option.{option_or}
use Rattle.std.specs.Str.{bytes_eq}
use Rattle.cpl_base.specs.ResultChain.{◌>>=◌, ok_if}
use Rattle.cpl_text.specs.Lines.{TextLine}
use Rattle.cpl_config.specs.declared.entry.Entry.{Entry}
use Rattle.cpl_config.specs.declared.entry.Item.{Item}
use Rattle.cpl_config.specs.declared.entry.Item.TheVariants.{Rows, Values}
use Rattle.cpl_config.specs.declared.fault.ItemFault.{ItemFault}
use Rattle.cpl_config.specs.declared.fault.ItemFault.TheVariants.{BadLine, StrayClose, LabelTwice, Unclosed}
use Rattle.cpl_config.specs.declared.row.Row.{Row}
use Rattle.cpl_config.specs.declared.row.Table.{Table}
use Rattle.cpl_config.specs.Words.{is_stray, is_table_end, table_label, value_item}

-- ---- what stands under a label

-- a value item under its label
abbrev pub value_entry : List ℕ → Row → Entry
value_entry label row = record { label = label; item = Values row }

-- a table under its label
abbrev pub table_entry : List ℕ → Table → Entry
table_entry label table = record { label = label; item = Rows table }

-- the values, if the item is a value item
abbrev pub row_in : Item → Option Row
row_in (Values row) = Some row
row_in (Rows table) = None

-- the table, if the item is one
abbrev pub table_in : Item → Option Table
table_in (Values row) = None
table_in (Rows table) = Some table

-- what the first item of that label has that has any
abbrev pub first_under : {A : Type 0} → (Item → Option A) → List ℕ → List Entry → Option A
first_under part label [] = None
first_under part label (entry ∷ entries) =
    option_or (if bytes_eq label entry.label then part entry.item else None) (first_under part label entries)

-- the values of the value item of a label
abbrev pub value_under : List ℕ → List Entry → Option Row
value_under label entries = first_under row_in label entries

-- the table of a label
abbrev pub table_under : List ℕ → List Entry → Option Table
table_under label entries = first_under table_in label entries

-- ---- the lines of a file

-- a line: its number, and the texts of its words
pub record WordLine : Type 0 where
  pub number : ℕ
  pub words : List (List ℕ)

-- a line of the text by the texts of its words
abbrev pub word_line : TextLine → WordLine
word_line line = record { number = line.number; words = map (λ word. word.text) line.words }

-- The lines outside of tables, each with the lines behind it. A line that closes a table is none of them.
abbrev pub outside_lines : Bool → List WordLine → List (WordLine × List WordLine)
outside_lines inside [] = []
outside_lines true (line ∷ lines) = outside_lines (not (is_table_end line.words)) lines
outside_lines false (line ∷ lines) = (line, lines) ∷ outside_lines (is_some (table_label line.words)) lines

-- a line as a row
abbrev pub row_of : WordLine → Row
row_of line = record { line = line.number; words = line.words }

-- the rows of a table: the lines behind its opening, up to the one that closes it
abbrev pub rows_of : List WordLine → List Row
rows_of behind = map row_of (take_while (λ line. not (is_table_end line.words)) behind)

-- ---- the entry of a line outside of tables

-- the fault of a line that is neither a value item nor the opening of a table
abbrev pub line_fault : WordLine → ItemFault
line_fault line = if is_stray line.words then StrayClose line.number else BadLine line.number

-- the entry, by the label of the table that the line opens and by the value item that it is
abbrev pub entry_of : WordLine → List WordLine → Option (List ℕ) → Option (List ℕ × List (List ℕ)) → Result Entry ItemFault
entry_of line behind None None = Err (line_fault line)
entry_of line behind None (Some value) = Ok (value_entry value.0 (record { line = line.number; words = value.1 }))
entry_of line behind (Some label) value = Ok (table_entry label (record { line = line.number; rows = rows_of behind }))

-- whether an item of this kind stands under the label
abbrev pub is_taken : List Entry → List ℕ → Item → Bool
is_taken entries label (Values row) = is_some (value_under label entries)
is_taken entries label (Rows table) = is_some (table_under label entries)

-- whether the item has its end among the lines behind its first: a table has it where one closes it
abbrev pub has_end : Item → List WordLine → Bool
has_end (Values row) behind = true
has_end (Rows table) behind = list_any (λ line. is_table_end line.words) behind

-- the entry of a line, behind these entries and in front of these lines, or its fault
abbrev pub entry_at : List Entry → WordLine → List WordLine → Result Entry ItemFault
entry_at before line behind =
    entry_of line behind (table_label line.words) (value_item line.words) >>= (λ entry.
    ok_if (not (is_taken before entry.label entry.item)) (LabelTwice line.number) >>= (λ fresh.
    ok_if (has_end entry.item behind) (Unclosed line.number) >>= (λ whole. Ok entry)))

-- ---- the entries of a file

-- these entries and those of further lines outside of tables, or the first fault
abbrev pub entries_with : List Entry → List (WordLine × List WordLine) → Result (List Entry) ItemFault
entries_with before [] = Ok before
entries_with before (place ∷ places) = entry_at before place.0 place.1 >>= (λ entry. entries_with (before ++ entry ∷ []) places)

-- the entries of a file of these lines, or the first fault
unfoldable pub items_of : List WordLine → Result (List Entry) ItemFault
items_of lines = entries_with [] (outside_lines false lines)

-- ---- how long rows are

-- a row's words, joined by single blanks, have fewer than 2^32 bytes
abbrev pub IsShort : Row → Type 0
IsShort row = length (join_with_byte 32 row.words) < 2 ^ 32

-- so has each row of an item
abbrev pub HasShortRows : Item → Type 0
HasShortRows (Values row) = IsShort row
HasShortRows (Rows table) = All IsShort table.rows

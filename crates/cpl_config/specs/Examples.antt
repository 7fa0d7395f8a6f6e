-- The definitions of items, evaluated on small files.
use Rattle.std.specs.Prelude.{◌≡◌, ℕ, List, [], ◌∷◌, codes, map, Some, None, Result, Ok, Err}
use Rattle.cpl_text.specs.Lines.{lines_of}
use Rattle.cpl_config.specs.declared.entry.Entry.{Entry}
use Rattle.cpl_config.specs.declared.fault.ItemFault.{ItemFault}
use Rattle.cpl_config.specs.declared.fault.ItemFault.TheVariants.{BadLine, StrayClose, LabelTwice, Unclosed}
use Rattle.cpl_config.specs.declared.row.Row.{Row}
use Rattle.cpl_config.specs.declared.row.Table.{Table}
use Rattle.cpl_config.specs.Items.{items_of, table_entry, table_under, value_entry, value_under, word_line}

-- the entries that a text describes
abbrev pub items_in : List ℕ → Result (List Entry) ItemFault
items_in bytes = items_of (map word_line (lines_of bytes))

-- a row of these words
abbrev pub row : ℕ → List (List ℕ) → Row
row line words = record { line = line; words = words }

-- a table that is opened in a line
abbrev pub table_of : ℕ → List Row → Table
table_of line rows = record { line = line; rows = rows }

-- a value item, a table of the same label, and a value item behind it
abbrev pub mixed_entries : List Entry
mixed_entries =
    value_entry (codes "a") (row 1 (codes "b" ∷ [])) ∷ table_entry (codes "a") (table_of 2 (row 3 (codes "c" ∷ []) ∷ [])) ∷ value_entry (codes "d") (row 5 []) ∷ []

-- files with their entries or their fault, and what stands under labels
pub record ItemExamples : Type 0 where
  pub empty : items_in [] ≡ Ok []
  pub value : items_in (codes "a: b c\n") ≡ Ok (value_entry (codes "a") (row 1 (codes "b" ∷ codes "c" ∷ [])) ∷ [])
  pub value_behind_the_colon : items_in (codes "a:b c\r\n") ≡ Ok (value_entry (codes "a") (row 1 (codes "b" ∷ codes "c" ∷ [])) ∷ [])
  pub value_with_colons : items_in (codes "a:b:c") ≡ Ok (value_entry (codes "a") (row 1 (codes "b:c" ∷ [])) ∷ [])
  pub no_values : items_in (codes "\n a: # none\n") ≡ Ok (value_entry (codes "a") (row 2 []) ∷ [])
  pub table : items_in (codes "a::\n b c\n d:\n::\n") ≡ Ok (table_entry (codes "a") (table_of 1 (row 2 (codes "b" ∷ codes "c" ∷ []) ∷ row 3 (codes "d:" ∷ []) ∷ [])) ∷ [])
  pub table_without_rows : items_in (codes "\na::\n\n::") ≡ Ok (table_entry (codes "a") (table_of 2 []) ∷ [])
  pub rows_of_colons : items_in (codes "a::\n:: b\nb::\n::") ≡ Ok (table_entry (codes "a") (table_of 1 (row 2 (codes "::" ∷ codes "b" ∷ []) ∷ row 3 (codes "b::" ∷ []) ∷ [])) ∷ [])
  pub three_colons : items_in (codes ":::\n::") ≡ Ok (table_entry (codes ":") (table_of 1 []) ∷ [])
  pub mixed : items_in (codes "a: b\na::\nc\n::\nd:") ≡ Ok mixed_entries
  pub no_colon : items_in (codes "x: 1\nA_grid 1 1\n") ≡ Err (BadLine 2)
  pub colon_alone : items_in (codes ":") ≡ Err (BadLine 1)
  pub colon_first : items_in (codes ":x y") ≡ Err (BadLine 1)
  pub opening_with_words : items_in (codes "a:: b\n::") ≡ Err (BadLine 1)
  pub stray : items_in (codes "a: b\n::") ≡ Err (StrayClose 2)
  pub stray_with_words : items_in (codes ":: a") ≡ Err (StrayClose 1)
  pub value_twice : items_in (codes "a: b\nc: d\na: e\n") ≡ Err (LabelTwice 3)
  pub table_twice : items_in (codes "a::\n::\na::\nb\n::") ≡ Err (LabelTwice 3)
  pub twice_before_unclosed : items_in (codes "a::\n::\na::\nb") ≡ Err (LabelTwice 3)
  pub unclosed : items_in (codes "a: b\nc::\nd e\n") ≡ Err (Unclosed 2)
  pub first_of_two : items_in (codes "a b\n::\nc::") ≡ Err (BadLine 1)
  pub faults_before_unclosed : items_in (codes "::\nc::") ≡ Err (StrayClose 1)
  pub value_under_label : value_under (codes "a") mixed_entries ≡ Some (row 1 (codes "b" ∷ []))
  pub table_under_label : table_under (codes "a") mixed_entries ≡ Some (table_of 2 (row 3 (codes "c" ∷ []) ∷ []))
  pub no_table_under_label : table_under (codes "d") mixed_entries ≡ None
  pub no_value_under_label : value_under (codes "c") mixed_entries ≡ None

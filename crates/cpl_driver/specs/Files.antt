-- The system that the bytes of a resource file describe: today one component on one cell, with one
-- variable, one formula and one time loop.
use Rattle.std.specs.Prelude.{ℕ, ℤ, Bool, true, false, not, ◌&&◌, ◌||◌, ◌==◌, ◌%◌, ◌/◌, if◌then◌else◌, nat_le, nat_lt, List, [], ◌∷◌, ◌++◌, length, filter, map, codes, slice_index_or, Option, Some, None}
use Rattle.std.specs.List.{slice_split, list_all, join_with_byte}
use Rattle.std.specs.Result.{result_ok}
use Rattle.std.specs.Str.{bytes_eq}
use Rattle.cpl_base.specs.Chain.{◌>>=◌, sole_member, some_if}
use Rattle.cpl_base.specs.Numerals.{cut_at, number_word}
use Rattle.cpl_base.specs.Words.{is_name, is_name_byte, is_some_of, rest_behind, words_of}
use Rattle.cpl_formula.specs.declared.formula.Parsed.{Parsed}
use Rattle.cpl_formula.specs.declared.formula.Read.{Read}
use Rattle.cpl_formula.specs.declared.formula.ReadName.{ReadName}
use Rattle.cpl_formula.specs.declared.formula.ReadName.TheVariants.{Field}
use Rattle.cpl_formula.specs.FieldNames.{is_field_name}
use Rattle.cpl_formula.specs.Steps.{parsed_of}
use Rattle.cpl_driver.specs.Names.{closes_table, constant_of, is_word, opens_table, values_of}
use Rattle.cpl_driver.specs.declared.system.Loop.{Loop}
use Rattle.cpl_driver.specs.declared.system.System.{System}

-- ---- lines and words

-- LF, or a byte from the space to `~` that isn't `#`
abbrev pub is_plain : ℕ → Bool
is_plain c = c == 10 || (nat_le 32 c && nat_le c 126 && not (c == 35))

-- the lines that have words, each as its words
unfoldable pub lines_of : List ℕ → List (List (List ℕ))
lines_of bytes = filter is_some_of (map words_of (slice_split (λ c. c == 10) bytes))

-- the words of the line at this place, counted from 0
unfoldable pub line_at : List (List (List ℕ)) → ℕ → List (List ℕ)
line_at lines place = slice_index_or lines place []

-- ---- the parts of a file

-- the value item `EARTH_component_list:` with one name
abbrev pub component_of : List (List ℕ) → Option (List ℕ)
component_of words = do
  values ← values_of (codes "EARTH_component_list") words
  name ← sole_member values
  _ ← some_if (is_name name)
  Some name

-- whether the values of a grid are `1 1`
abbrev pub is_one_by_one : Option (List (List ℕ)) → Bool
is_one_by_one None = false
is_one_by_one (Some []) = false
is_one_by_one (Some (columns ∷ rows)) = bytes_eq columns (codes "1") && is_word (codes "1") rows

-- whether a line is the value item of the component's grid, of one cell
abbrev pub is_one_cell : List ℕ → List (List ℕ) → Bool
is_one_cell component words = is_one_by_one (values_of (component ++ codes "_grid") words)

-- the field and the words of the rule, of a row `FIELD = RULE`
abbrev pub assignment_of : List (List ℕ) → Option (List ℕ × List (List ℕ))
assignment_of [] = None
assignment_of (field ∷ []) = None
assignment_of (field ∷ equals ∷ rule) = if bytes_eq equals (codes "=") && is_some_of rule then Some (field, rule) else None

-- the table of the variables: one row, `FIELD = NUMBER`
unfoldable pub variable_of : List ℕ → List (List (List ℕ)) → Option (List ℕ × ℤ)
variable_of component lines = do
  _ ← some_if (opens_table (component ++ codes "_vars") (line_at lines 2))
  row ← assignment_of (line_at lines 3)
  _ ← some_if (is_field_name row.0)
  word ← sole_member row.1
  start ← constant_of word
  _ ← some_if (closes_table (line_at lines 4))
  Some (row.0, start)

-- a byte of a name, a point, a blank or `+`
abbrev pub is_sum_byte : ℕ → Bool
is_sum_byte c = is_name_byte c || c == 46 || c == 32 || c == 43

-- whether a name that is read is a field's
abbrev pub is_field : ReadName → Bool
is_field (Field place) = true
is_field other = false

-- whether a field is read
abbrev pub is_field_read : Read → Bool
is_field_read read = is_field read.name

-- A rule over this field: one to 32 numbers and names of the field, joined by `+`. Formulas of these bytes
-- have no other form, and are as deep as they have atoms, up to 32.
unfoldable pub sum_of : List ℕ → List ℕ → Option Parsed
sum_of field text = do
  _ ← some_if (list_all is_sum_byte text && nat_lt (length text) 4294967296)
  rule ← result_ok (parsed_of (field ∷ []) [] text)
  _ ← some_if (list_all is_field_read rule.reads)
  Some rule

-- the table of the phase: one row, `FIELD = FORMULA`; the words of a rule are joined by single blanks
unfoldable pub rule_of : List ℕ → List ℕ → List (List (List ℕ)) → Option Parsed
rule_of component field lines = do
  _ ← some_if (opens_table (component ++ codes "_phase_run") (line_at lines 5))
  row ← assignment_of (line_at lines 6)
  _ ← some_if (bytes_eq row.0 field)
  rule ← sum_of field (join_with_byte 32 row.1)
  _ ← some_if (closes_table (line_at lines 7))
  Some rule

-- a step divides its loop's duration into fewer than 2^24 iterations
abbrev pub is_loop : ℕ → ℕ → Bool
is_loop step duration =
    nat_le 1 step && nat_le step 1000000000 && nat_le 1 duration && nat_le duration 100000000000
    && duration % step == 0 && nat_lt (duration / step) 16777216

-- the loop that a row `@STEP:DURATION` opens
unfoldable pub loop_in : List (List ℕ) → Option Loop
loop_in words = do
  word ← sole_member words
  numbers ← rest_behind (codes "@") word
  halves ← cut_at 58 numbers
  step ← number_word halves.0
  duration ← number_word halves.1
  _ ← some_if (is_loop step duration)
  Some (record { step = step; duration = duration })

-- the run sequence: one loop around a run of the component
unfoldable pub loop_of : List ℕ → List (List (List ℕ)) → Option Loop
loop_of component lines = do
  _ ← some_if (opens_table (codes "runSeq") (line_at lines 8))
  loop ← loop_in (line_at lines 9)
  _ ← some_if (is_word component (line_at lines 10) && is_word (codes "@") (line_at lines 11) && closes_table (line_at lines 12))
  Some loop

-- ---- the whole file

-- the system that thirteen lines describe
unfoldable pub system_in : List (List (List ℕ)) → Option System
system_in lines = do
  _ ← some_if (length lines == 13)
  component ← component_of (line_at lines 0)
  _ ← some_if (is_one_cell component (line_at lines 1))
  variable ← variable_of component lines
  rule ← rule_of component variable.0 lines
  loop ← loop_of component lines
  Some (record { component = component; field = variable.0; start = variable.1; rule = rule; sequence = loop })

-- the system that the bytes of a file describe, or none where they are of another form
unfoldable pub system_of : List ℕ → Option System
system_of bytes = do
  _ ← some_if (list_all is_plain bytes)
  system_in (lines_of bytes)

-- The text of a trace, line by line.
use Rattle.std.specs.Prelude.{ℕ, ℤ, ◌<◌, List, [], ◌∷◌, ◌++◌, length, codes, decimal, unsigned_abs, slice_index_or, All, IsTrue}
use Rattle.std.specs.Int.{is_negative}
use Rattle.std.specs.List.{flat_map, join_with_byte}
use Rattle.cpl_base.specs.Numerals.{sign, value_text}
use Rattle.cpl_base.specs.Words.{is_name}
use Rattle.cpl_trace.specs.declared.names.TraceNames.{TraceNames}
use Rattle.cpl_trace.specs.declared.row.TraceRow.{TraceRow}

-- the names of a component's parts, and one of them
abbrev pub names_at : List (List (List ℕ)) → ℕ → List (List ℕ)
names_at names component = slice_index_or names component []

abbrev pub name_at : List (List ℕ) → ℕ → List ℕ
name_at names place = slice_index_or names place []

-- a whole number: a minus where it is below 0, and its size
abbrev pub integer_text : ℤ → List ℕ
integer_text z = sign (is_negative z) ++ decimal (unsigned_abs z)

-- the columns of a row
unfoldable pub columns_of : TraceNames → TraceRow → List (List ℕ)
columns_of names row =
    decimal row.op ∷ name_at names.components row.component ∷ name_at (names_at names.phases row.component) row.phase
    ∷ name_at (names_at names.fields row.component) row.field ∷ integer_text row.stamp ∷ value_text row.sum ∷ []

-- a line: columns with commas between them
unfoldable pub line_of : List (List ℕ) → List ℕ
line_of columns = join_with_byte 44 columns ++ 10 ∷ []

-- the first line
unfoldable pub head_line : List ℕ
head_line = line_of (codes "op" ∷ codes "component" ∷ codes "phase" ∷ codes "field" ∷ codes "stamp" ∷ codes "sum" ∷ [])

-- the text: the first line, then one for each row
abbrev pub trace_text : TraceNames → List TraceRow → List ℕ
trace_text names rows = head_line ++ flat_map (λ row. line_of (columns_of names row)) rows

-- what names are given is names
pub record AreNames (names : TraceNames) : Type 0 where
  pub components : All (λ name. IsTrue (is_name name)) names.components
  pub phases : All (All (λ name. IsTrue (is_name name))) names.phases
  pub fields : All (All (λ name. IsTrue (is_name name))) names.fields

-- a row's numbers are places among the names
pub record IsPlaced (names : TraceNames) (row : TraceRow) : Type 0 where
  pub component : row.component < length names.components
  pub phases : row.component < length names.phases
  pub phase : row.phase < length (names_at names.phases row.component)
  pub fields : row.component < length names.fields
  pub field : row.field < length (names_at names.fields row.component)

-- An argument of a native rule: one word, a number or what a formula reads.
use Rattle.std.specs.Prelude.{ℕ, ℤ, pos, ◌-◌, unsigned_abs, Bool, false, ◌&&◌, not, if◌then◌else◌, nat_le, List, [], ◌∷◌, Option, Some, None, Result, Ok, Err}
use Rattle.std.specs.List.{list_all}
use Rattle.cpl_base.specs.Chain.{◌>>=◌, some_if}
use Rattle.cpl_base.specs.Numbers.{IsValue}
use Rattle.cpl_base.specs.Numerals.{cut_at, signed_integer, signed_part, value_of}
use Rattle.cpl_base.specs.Words.{is_digit, is_letter, is_name_byte, is_some_of, place_of}
use Rattle.cpl_base.specs.declared.value.ValFault.{ValFault}
use Rattle.cpl_base.specs.declared.value.ValFault.TheVariants.{Digits}
use Rattle.cpl_formula.specs.Reads.{IsRead, read_at}
use Rattle.cpl_formula.specs.Tokens.{token_of}
use Rattle.cpl_formula.specs.declared.arguments.Argument.{Argument}
use Rattle.cpl_formula.specs.declared.arguments.Argument.TheVariants.{Number, Cell}
use Rattle.cpl_formula.specs.declared.fault.FormulaFault.{FormulaFault}
use Rattle.cpl_formula.specs.declared.fault.FormulaFault.TheVariants.{Syntax, BadNumber, NameUnknown, FarNeighbour}
use Rattle.cpl_formula.specs.declared.formula.ReadName.TheVariants as names
use Rattle.cpl_formula.specs.declared.tokens.Token.{Token}
use Rattle.cpl_formula.specs.declared.tokens.Token.TheVariants as token

-- ---- the form of a word that is no number

-- a letter, then letters, digits and `_`, as many as there are
abbrev pub is_long_name : List ℕ → Bool
is_long_name [] = false
is_long_name (c ∷ more) = is_letter c && list_all is_name_byte more

-- the number of one digit
abbrev pub digit_word : List ℕ → Option ℕ
digit_word (c ∷ []) = if is_digit c then Some (c - 48) else None
digit_word word = None

-- an offset: one digit, behind a minus or not
abbrev pub offset_word : List ℕ → Option ℤ
offset_word word = let s = signed_part word in digit_word s.1 >>= (λ d. Some (signed_integer s.0 d))

-- what stands behind a `[`: two offsets with a comma between them, and `]` at the end
abbrev pub offset_words : List ℕ → Option (ℤ × ℤ)
offset_words text = do
  first ← cut_at 44 text
  second ← cut_at 93 first.1
  _ ← some_if (not (is_some_of second.1))
  dx ← offset_word first.0
  dy ← offset_word second.0
  Some (dx, dy)

-- a word before a `[` and what stands behind that, or a word without one: a name, with its offsets if it has any
abbrev pub name_parts : List ℕ → Option (List ℕ × List ℕ) → Option (List ℕ × Option (ℤ × ℤ))
name_parts word None = some_if (is_long_name word) >>= (λ _. Some (word, None))
name_parts word (Some halves) = do
  _ ← some_if (is_long_name halves.0)
  offsets ← offset_words halves.1
  Some (halves.0, Some offsets)

-- the name of a word, and the offsets in its brackets, if it has these
abbrev pub name_word : List ℕ → Option (List ℕ × Option (ℤ × ℤ))
name_word word = name_parts word (cut_at 91 word)

-- ---- what a word stands for

-- a name alone: what it stands for in a formula, if that is read
abbrev pub argument_here : ℕ → Token → Result Argument FormulaFault
argument_here at (token.Field k) = Ok (Cell (read_at (names.Field k) (pos 0) (pos 0)))
argument_here at (token.Quantity q) = Ok (Cell (read_at q (pos 0) (pos 0)))
argument_here at t = Err (NameUnknown at)

-- an offset that is near enough
abbrev pub is_near : ℤ → Bool
is_near offset = nat_le (unsigned_abs offset) 2

-- a name with offsets: a field's, at a neighbour that is near enough
abbrev pub argument_beside : ℕ → ℤ × ℤ → Option ℕ → Result Argument FormulaFault
argument_beside at offsets None = Err (NameUnknown at)
argument_beside at offsets (Some k) =
    if is_near offsets.0 && is_near offsets.1 then Ok (Cell (read_at (names.Field k) offsets.0 offsets.1)) else Err (FarNeighbour at)

-- a word that is no number
abbrev pub cell_argument : List (List ℕ) → List (List ℕ) → ℕ → Option (List ℕ × Option (ℤ × ℤ)) → Result Argument FormulaFault
cell_argument fields alarms at None = Err (Syntax at)
cell_argument fields alarms at (Some (name, None)) = argument_here at (token_of fields alarms name false)
cell_argument fields alarms at (Some (name, Some offsets)) = argument_beside at offsets (place_of fields name)

-- a word, by what it denotes as a number
abbrev pub argument_by : List (List ℕ) → List (List ℕ) → ℕ → List ℕ → Result ℤ ValFault → Result Argument FormulaFault
argument_by fields alarms at word (Ok z) = Ok (Number z)
argument_by fields alarms at word (Err Digits) = cell_argument fields alarms at (name_word word)
argument_by fields alarms at word (Err fault) = Err (BadNumber at)

-- what a word at this place stands for, over these names of fields and alarms
abbrev pub argument_of : List (List ℕ) → List (List ℕ) → ℕ → List ℕ → Result Argument FormulaFault
argument_of fields alarms at word = argument_by fields alarms at word (value_of word)

-- ---- in range

-- an argument among so many fields and alarms: a number is a value
abbrev pub IsArgument : ℕ → ℕ → Argument → Type 0
IsArgument fields alarms (Number z) = IsValue z
IsArgument fields alarms (Cell read) = IsRead fields alarms read

-- Names and labels: what the lines of a resource file are made of.
use Rattle.std.specs.Prelude.{ℕ, ℤ, Bool, false, ◌==◌, if◌then◌else◌, List, [], ◌∷◌, ◌++◌, slice_index, codes, Option, Some, None}
use Rattle.std.specs.Result.{result_ok}
use Rattle.std.specs.Str.{bytes_eq}
use Rattle.cpl_base.specs.Numerals.{value_of}
use Rattle.cpl_base.specs.Words.{rest_behind}

-- a number, which has no minus
abbrev pub constant_of : List ℕ → Option ℤ
constant_of word = if slice_index word 0 == 45 then None else result_ok (value_of word)

-- whether a line is this one word
abbrev pub is_word : List ℕ → List (List ℕ) → Bool
is_word word [] = false
is_word word (w ∷ []) = bytes_eq w word
is_word word (w ∷ v ∷ more) = false

-- a first value that stands right behind the colon of its label, where one does, and the words behind
abbrev pub with_first : List ℕ → List (List ℕ) → List (List ℕ)
with_first [] words = words
with_first (c ∷ cs) words = (c ∷ cs) ∷ words

-- the values of a line whose first word goes on so behind its label
abbrev pub values_behind : Option (List ℕ) → List (List ℕ) → Option (List (List ℕ))
values_behind None words = None
values_behind (Some first) words = Some (with_first first words)

-- The values of a line that is the value item of this label: `LABEL: VALUE ..` or `LABEL:VALUE ..`.
abbrev pub values_of : List ℕ → List (List ℕ) → Option (List (List ℕ))
values_of label [] = None
values_of label (word ∷ words) = values_behind (rest_behind (label ++ codes ":") word) words

-- whether a line opens the table of this label: `LABEL::`
abbrev pub opens_table : List ℕ → List (List ℕ) → Bool
opens_table label line = is_word (label ++ codes "::") line

-- whether a line closes a table
abbrev pub closes_table : List (List ℕ) → Bool
closes_table line = is_word (codes "::") line

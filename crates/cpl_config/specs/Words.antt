-- What the words of one line say in a resource file.
use Rattle.std.specs.Prelude.{ℕ, ◌-◌, Bool, false, ◌&&◌, if◌then◌else◌, nat_lt, List, [], ◌∷◌, length, take, drop, codes, Option, Some, None}
use Rattle.std.specs.Str.{bytes_eq}
use Rattle.cpl_base.specs.Numerals.{cut_at}
use Rattle.cpl_base.specs.Words.{is_some_of}

-- whether a word is `::`
abbrev pub is_colons : List ℕ → Bool
is_colons word = bytes_eq word (codes "::")

-- whether a word ends in `::`
abbrev pub ends_in_colons : List ℕ → Bool
ends_in_colons word = is_colons (drop (length word - 2) word)

-- the label in front of the `::` at a word's end, if there is one
abbrev pub label_before_colons : List ℕ → Option (List ℕ)
label_before_colons word = if ends_in_colons word && nat_lt 2 (length word) then Some (take (length word - 2) word) else None

-- the label of the table that a line opens: it has one word, a label and `::`
abbrev pub table_label : List (List ℕ) → Option (List ℕ)
table_label [] = None
table_label (word ∷ []) = label_before_colons word
table_label (word ∷ next ∷ more) = None

-- the value that stands right behind a label's colon, if one does, and those behind it
abbrev pub values_of : List ℕ → List (List ℕ) → List (List ℕ)
values_of [] more = more
values_of (c ∷ cs) more = (c ∷ cs) ∷ more

-- a label and its values, by the halves of the first word, cut at its first colon
abbrev pub item_of_halves : Option (List ℕ × List ℕ) → List (List ℕ) → Option (List ℕ × List (List ℕ))
item_of_halves None more = None
item_of_halves (Some halves) more = if is_some_of halves.0 then Some (halves.0, values_of halves.1 more) else None

-- the label and the values of a value item: the first word has a colon and doesn't begin with one
abbrev pub value_item : List (List ℕ) → Option (List ℕ × List (List ℕ))
value_item [] = None
value_item (word ∷ more) = if ends_in_colons word then None else item_of_halves (cut_at 58 word) more

-- whether the first word is `::`
abbrev pub is_stray : List (List ℕ) → Bool
is_stray [] = false
is_stray (word ∷ more) = is_colons word

-- whether a line closes a table: it is the one word `::`
abbrev pub is_table_end : List (List ℕ) → Bool
is_table_end [] = false
is_table_end (word ∷ []) = is_colons word
is_table_end (word ∷ next ∷ more) = false

-- The lines of a text and their words, each word with the place where it stands: the text cut into lists.
use Rattle.std.specs.Prelude.{ℕ, ◌+◌, Bool, ◌&&◌, ◌||◌, ◌==◌, if◌then◌else◌, nat_le, nat_lt, List, [], ◌∷◌, length, filter, Option, Some, None}
use Rattle.std.specs.List.{before_first, list_all, slice_split}
use Rattle.std.specs.Str.Lines.{strip_carriage_return}

-- a part of a text: its bytes, and the places where it begins and ends
pub record Part : Type 0 where
  pub start : ℕ
  pub «end» : ℕ
  pub text : List ℕ

-- the part with these bytes that begins at a place
abbrev pub part_at : ℕ → List ℕ → Part
part_at start text = record { start = start; «end» = start + length text; text = text }

-- parts that follow each other from a place on, with one byte between them
abbrev pub parts_from : ℕ → List (List ℕ) → List Part
parts_from start [] = []
parts_from start (text ∷ texts) = part_at start text ∷ parts_from (start + length text + 1) texts

-- LF
abbrev pub ends_line : ℕ → Bool
ends_line c = c == 10

-- a space or a tab
abbrev pub is_blank : ℕ → Bool
is_blank c = c == 32 || c == 9

-- `#`
abbrev pub begins_comment : ℕ → Bool
begins_comment c = c == 35

-- a byte from the space to `~`, or a tab
abbrev pub is_allowed : ℕ → Bool
is_allowed c = (nat_le 32 c && nat_le c 126) || c == 9

-- what is looked at of what stands between two LFs: neither the CR that ends it nor a comment
abbrev pub content_of : List ℕ → List ℕ
content_of line = before_first begins_comment (strip_carriage_return line)

-- whether a part has a byte
abbrev pub is_word : Part → Bool
is_word part = nat_lt 0 (length part.text)

-- the words of a text that begins at a place: what stands between blanks, where that is anything
abbrev pub words_at : ℕ → List ℕ → List Part
words_at start text = filter is_word (parts_from start (slice_split is_blank text))

-- a line: its number, and its words
pub record TextLine : Type 0 where
  pub number : ℕ
  pub words : List Part

-- the line of that number, of what begins at a place and stands between two LFs
abbrev pub line_at : ℕ → ℕ → List ℕ → TextLine
line_at number start text = record { number = number; words = words_at start (content_of text) }

-- lines with their words, counted from a number on
abbrev pub lines_from : ℕ → List Part → List TextLine
lines_from number [] = []
lines_from number (part ∷ parts) = line_at number part.start part.text ∷ lines_from (number + 1) parts

-- whether a line has words
abbrev pub has_words : TextLine → Bool
has_words line = nat_lt 0 (length line.words)

-- the lines that have words; lines without words count, too
unfoldable pub lines_of : List ℕ → List TextLine
lines_of bytes = filter has_words (lines_from 1 (parts_from 0 (slice_split ends_line bytes)))

-- the number of the first line that has a byte that isn't allowed
abbrev pub first_faulty_number : ℕ → List (List ℕ) → Option ℕ
first_faulty_number number [] = None
first_faulty_number number (line ∷ lines) =
    if list_all is_allowed (content_of line) then first_faulty_number (number + 1) lines else Some number

-- the same, of the lines of a text
unfoldable pub faulty_line : List ℕ → Option ℕ
faulty_line bytes = first_faulty_number 1 (slice_split ends_line bytes)

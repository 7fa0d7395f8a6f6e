-- What lines that are kept as spans of a text say: the same as the lines of that text.
use Rattle.std.specs.Prelude.{◌≡◌, ℕ, ◌≤◌, List, length, map, slice_range, Option, None, Some}
use Rattle.std.specs.List.{All}
use Rattle.cpl_text.specs.declared.text_lines.Line.{Line}
use Rattle.cpl_text.specs.declared.text_lines.Word.{Word}
use Rattle.cpl_text.specs.declared.fault.TextFault.{TextFault}
use Rattle.cpl_text.specs.declared.fault.TextFault.TheVariants.{NotAscii, Memory}
use Rattle.cpl_text.specs.Lines.{Part, TextLine, lines_of, faulty_line}

-- the part of a text that a span names
abbrev pub part_in : List ℕ → Word → Part
part_in bytes word = record { start = word.start; «end» = word.«end»; text = slice_range bytes word.start word.«end» }

-- the line of a text that spans name
abbrev pub line_in : List ℕ → Line → TextLine
line_in bytes line = record { number = line.number; words = map (part_in bytes) line.words.items }

-- The part is what stands between its places.
pub record Stands (text : List ℕ) (part : Part) : Type 0 where
  pub forward : part.start ≤ part.«end»
  pub within : part.«end» ≤ length text
  pub text_is : slice_range text part.start part.«end» ≡ part.text

-- all words of the line stand in the text
pub record StandsIn (text : List ℕ) (line : TextLine) : Type 0 where
  pub words_stand : All (Stands text) line.words

-- These are the lines of the text, span by span, and each byte that is looked at is allowed.
pub record IsLines (bytes : List ℕ) (lines : List Line) : Type 0 where
  pub lines_are : map (line_in bytes) lines ≡ lines_of bytes
  pub sound : faulty_line bytes ≡ None

-- A fault with its cause: the number is that of the first faulty line. Want of memory needs none.
abbrev pub IsCaused : Option ℕ → TextFault → Type 0
IsCaused faulty (NotAscii line) = faulty ≡ Some line
IsCaused faulty Memory = Unit {0}

-- the span of a part
abbrev pub span_of : Part → Word
span_of part = record { start = part.start; «end» = part.«end» }

-- Native entries and books of them: what is found by a label, and what a call gives.
use Rattle.std.specs.Prelude.{ℕ, ◌<◌, ◌^◌, ℤ, ◌==◌, if◌then◌else◌, List, length, map, slice_get, Option, Some, None, Result, Ok, Err, IsTrue}
use Rattle.std.specs.List.{All}
use Rattle.std.specs.Option.{option_map, option_map_or}
use Rattle.cpl_base.specs.Words.{are_distinct, first_repeat, place_of}
use Rattle.cpl_formula.specs.Tree.{is_over, value_of}
use Rattle.cpl_formula.specs.declared.formula.EntrySign.{EntrySign}
use Rattle.cpl_formula.specs.declared.formula.Formula.{Formula}
use Rattle.cpl_entry.specs.declared.fault.EntryFault.{EntryFault}
use Rattle.cpl_entry.specs.declared.fault.EntryFault.TheVariants.{LabelTwice, EntryUnknown, InputsDiffer}

-- A native entry: its label, how many inputs it takes, and the formula whose value it answers.
pub record NativeEntry : Type 0 where
  pub label : List ℕ
  pub inputs : ℕ
  pub formula : Formula

-- the label and how many inputs it takes
abbrev pub sign_of : NativeEntry → EntrySign
sign_of entry = record { label = entry.label; inputs = entry.inputs }

-- that of each entry, in their order
abbrev pub signs_of : List NativeEntry → List EntrySign
signs_of entries = map sign_of entries

-- the labels of entries, in their order
abbrev pub labels_of : List NativeEntry → List (List ℕ)
labels_of entries = map (λ entry. entry.label) entries

-- the book that entries make: themselves, unless a label stood before
abbrev pub book_of : List NativeEntry → Result (List NativeEntry) EntryFault
book_of entries = option_map_or (λ index. Err (LabelTwice index)) (first_repeat (labels_of entries)) (Ok entries)

-- What holds of every book.
pub record IsBook (book : List NativeEntry) : Type 0 where
  pub few : length book < 2 ^ 16
  -- no two labels are equal
  pub labels : IsTrue (are_distinct (labels_of book))
  -- each formula reads none but its entry's inputs, and its numbers are values
  pub over : All (λ entry. IsTrue (is_over entry.inputs entry.formula)) book

-- how many inputs the entry at a place takes, if there is one
abbrev pub inputs_at : List NativeEntry → ℕ → Option ℕ
inputs_at book place = option_map (λ entry. entry.inputs) (slice_get book place)

-- the value of the formula of the entry at a place, if there is one
abbrev pub value_at : List NativeEntry → ℕ → List ℤ → Option ℤ
value_at book place inputs = option_map (λ entry. value_of inputs entry.formula) (slice_get book place)

-- a place, for a call with as many inputs as its entry takes
abbrev pub place_taking : ℕ → ℕ → Option ℕ → Result ℕ EntryFault
place_taking place have None = Err EntryUnknown
place_taking place have (Some want) = if want == have then Ok place else Err (InputsDiffer have want)

-- the place of the entry with a label, for a call with so many inputs
abbrev pub entry_for : List NativeEntry → List ℕ → ℕ → Result ℕ EntryFault
entry_for book label have =
    option_map_or (λ place. place_taking place have (inputs_at book place)) (place_of (labels_of book) label) (Err EntryUnknown)

-- The code's own: what a book keeps, and how its table of labels grows.
use Rattle.std.specs.Prelude.{◌≡◌, ℕ, ◌<◌, ◌^◌, Bool, if◌then◌else◌, List, [], ◌∷◌, ◌++◌, length, Result, Ok, Err, IsTrue}
use Rattle.std.specs.List.{list_any}
use Rattle.std.specs.Option.{option_map_or}
use Rattle.std.specs.Str.{bytes_eq}
use Rattle.cpl_base.specs.Words.{are_distinct, first_repeat}
use Rattle.cpl_formula.specs.declared.formula.EntrySign.{EntrySign}
use Rattle.cpl_entry.specs.Entries.{NativeEntry, labels_of, signs_of}
use Rattle.cpl_entry.specs.declared.fault.EntryFault.{EntryFault}
use Rattle.cpl_entry.specs.declared.fault.EntryFault.TheVariants.{LabelTwice}

-- a label is among others
abbrev pub is_there : List (List ℕ) → List ℕ → Bool
is_there labels label = list_any (λ other. bytes_eq other label) labels

-- the labels with one behind them, unless it is there
abbrev pub with_label : List (List ℕ) → List ℕ → List (List ℕ)
with_label labels label = if is_there labels label then labels else labels ++ label ∷ []

-- labels, unless one of them stood before
abbrev pub distinct_labels : List (List ℕ) → Result (List (List ℕ)) EntryFault
distinct_labels labels = option_map_or (λ index. Err (LabelTwice index)) (first_repeat labels) (Ok labels)

-- What a book keeps beside its entries.
pub record IsKept (entries : List NativeEntry) (signs : List EntrySign) (labels : List (List ℕ)) : Type 0 where
  pub few : length entries < 2 ^ 16
  pub signed : signs ≡ signs_of entries
  pub labelled : labels ≡ labels_of entries
  pub distinct : IsTrue (are_distinct labels)

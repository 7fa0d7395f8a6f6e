-- What holds of the fields of a component all through a run: a value for each cell, in what is kept too.
use Rattle.std.specs.Prelude.{◌≡◌, ℕ, ◌<◌, ℤ, List, length, slice_index}
use Rattle.std.specs.List.{All}
use Rattle.cpl_base.specs.Numbers.{IsValue}
use Rattle.cpl_comp.specs.Readings.{EntryAnswers, entry_answer}
use Rattle.cpl_comp.specs.Worlds.{FieldWorld}

-- A field over so many cells: it has a value for each, and so has each whole field that is kept for it.
pub record IsHeld (cells : ℕ) (field : FieldWorld) : Type 0 where
  pub count : length field.values ≡ cells
  pub values : All IsValue field.values
  pub kept_counts : All (λ kept. length kept ≡ cells) field.kept
  pub kept_values : All (All IsValue) field.kept

-- As many fields as this, each over so many cells.
pub record AreHeld (cells count : ℕ) (fields : List FieldWorld) : Type 0 where
  pub size : length fields ≡ count
  pub each : All (IsHeld cells) fields

-- Entries that take so many inputs each, and answer a value to values.
abbrev pub AreAnswers : List ℕ → EntryAnswers → Type 0
AreAnswers inputs entries =
    (entry : ℕ) (list : List ℤ) → entry < length inputs → slice_index inputs entry ≡ length list → All IsValue list → IsValue (entry_answer entries entry list)

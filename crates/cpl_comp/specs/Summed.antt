-- Kept fields by their number and their sums: on these alone depends what a run makes of them.
use Rattle.std.specs.Prelude.{ℕ, zero, suc, ◌+◌, ◌-◌, ℤ, pos, ◌+ℤ◌, List, ◌++◌, length, map, fold, slice_index_or, Option}
use Rattle.cpl_base.specs.Rounding.{near_of}
use Rattle.cpl_grid.specs.Owners.{Layout}
use Rattle.cpl_mediator.specs.Averages.{number_at, sum_at}
use Rattle.cpl_comp.specs.Readings.{Reading, rule_values}
use Rattle.cpl_comp.specs.Worlds.{FieldWorld, changed, no_field, over_cells}
use Rattle.cpl_comp.specs.Writes.{Write, merge_write, set_write}
use Rattle.cpl_comp.specs.declared.component.Phase.{Phase}
use Rattle.cpl_comp.specs.declared.component.SetRow.{SetRow}

-- A field whose kept fields are given by how many they are and by their sum at each cell, counted from 0.
pub record FieldSums : Type 0 where
  pub values : List ℤ
  pub stamp : Option ℤ
  pub count : ℕ
  pub sums : ℕ → ℤ

-- a field seen so
abbrev pub sums_of : FieldWorld → FieldSums
sums_of field = record { values = field.values; stamp = field.stamp; count = length field.kept; sums = sum_at field.kept }

-- the mean by number and sums; the values stay where nothing is kept
abbrev pub mean_by : Layout → List ℤ → ℕ → (ℕ → ℤ) → List ℤ
mean_by layout values zero sums = values
mean_by layout values (suc n) sums = over_cells layout (λ s. near_of (sums (s - 1)) (pos (suc n)))

-- the mean of what is kept for the field of a place
abbrev pub mean_write : Layout → List FieldSums → ℕ → Write
mean_write layout fields k =
    let field = slice_index_or fields k (sums_of no_field) in
    record { field = k; values = mean_by layout field.values field.count field.sums }

-- what a phase writes
abbrev pub sums_writes : Reading → List FieldSums → Phase → List Write
sums_writes reading fields phase =
    map (mean_write reading.layout fields) phase.averages
    ++ map (set_write reading) phase.sets
    ++ map (merge_write reading) phase.merges

-- the fields with new values in place
abbrev pub sums_written : List FieldSums → Write → List FieldSums
sums_written fields write = changed (λ field. record field { values = write.values }) write.field fields

-- with nothing kept for the field of a place
abbrev pub sums_emptied : List FieldSums → ℕ → List FieldSums
sums_emptied fields k = changed (λ field. record field { count = 0; sums = λ cell. pos 0 }) k fields

-- with one more field kept
abbrev pub sums_with_more : List ℤ → FieldSums → FieldSums
sums_with_more values field = record field { count = field.count + 1; sums = λ cell. field.sums cell +ℤ number_at values cell }

abbrev pub sums_kept : Reading → List FieldSums → SetRow → List FieldSums
sums_kept reading fields row = changed (sums_with_more (rule_values reading row.rule)) row.field fields

-- the fields after a phase
abbrev pub sums_after : Reading → List FieldSums → Phase → List FieldSums
sums_after reading fields phase =
    let news = fold sums_written fields (sums_writes reading fields phase) in
    fold (sums_kept reading) (fold sums_emptied news phase.averages) phase.adds

-- What a start rule or a phase makes of the fields of its component: all new values are found from the old fields, and
-- then put in place.
use Rattle.std.specs.Prelude.{ℕ, ◌-◌, ℤ, List, [], ◌∷◌, ◌++◌, map, fold, Option, option_map}
use Rattle.std.specs.List.{enumerate_from, filter_map}
use Rattle.cpl_grid.specs.Owners.{Layout}
use Rattle.cpl_mediator.specs.Averages.{average_at}
use Rattle.cpl_mediator.specs.Merges.{merge_of}
use Rattle.cpl_comp.specs.Readings.{Reading, rule_values}
use Rattle.cpl_comp.specs.Worlds.{FieldWorld, changed, field_at, over_cells}
use Rattle.cpl_comp.specs.declared.component.Field.{Field}
use Rattle.cpl_comp.specs.declared.component.MergeRow.{MergeRow}
use Rattle.cpl_comp.specs.declared.component.Phase.{Phase}
use Rattle.cpl_comp.specs.declared.component.SetRow.{SetRow}

-- ---- new values

-- The new values of the field of a place.
pub record Write : Type 0 where
  pub field : ℕ
  pub values : List ℤ

-- the fields with these values in place
abbrev pub written : List FieldWorld → Write → List FieldWorld
written fields write = changed (λ field. record field { values = write.values }) write.field fields

-- the fields with all of them in place
abbrev pub all_written : List FieldWorld → List Write → List FieldWorld
all_written fields writes = fold written fields writes

-- the value of an assignment at each cell
abbrev pub set_write : Reading → SetRow → Write
set_write reading row = record { field = row.field; values = rule_values reading row.rule }

-- the value of a merge at a cell: one rounding of the sum of its products
abbrev pub merge_value : Reading → MergeRow → ℕ → ℤ
merge_value reading row s = merge_of (map (λ term. (reading.value term.0 s, reading.value term.1 s)) row.terms)

-- its value at each cell
abbrev pub merge_write : Reading → MergeRow → Write
merge_write reading row = record { field = row.field; values = over_cells reading.layout (merge_value reading row) }

-- the mean at each cell of the whole fields that were kept; the values stay where there are none
abbrev pub mean_values : Layout → List ℤ → List (List ℤ) → List ℤ
mean_values layout values [] = values
mean_values layout values (first ∷ more) = over_cells layout (λ s. average_at (first ∷ more) (s - 1))

-- the mean of what was kept for the field of a place
abbrev pub average_write : Layout → List FieldWorld → ℕ → Write
average_write layout fields k = record { field = k; values = mean_values layout (field_at fields k).values (field_at fields k).kept }

-- what a phase writes: means, values of rules and merges
abbrev pub phase_writes : Reading → List FieldWorld → Phase → List Write
phase_writes reading fields phase =
    map (average_write reading.layout fields) phase.averages
    ++ map (set_write reading) phase.sets
    ++ map (merge_write reading) phase.merges

-- ---- kept fields

-- the fields with nothing kept for that of a place
abbrev pub emptied : List FieldWorld → ℕ → List FieldWorld
emptied fields k = changed (λ field. record field { kept = [] }) k fields

-- the fields with the value of a rule kept for its field, behind what was kept before
abbrev pub kept_more : Reading → List FieldWorld → SetRow → List FieldWorld
kept_more reading fields row =
    changed (λ field. record field { kept = field.kept ++ rule_values reading row.rule ∷ [] }) row.field fields

-- ---- a phase, and a start

-- The fields after a phase: its new values are in place, what its averages were taken of is forgotten, and what it adds
-- is kept. All rules read what the reading gives, so none sees what another writes.
abbrev pub fields_after : Reading → List FieldWorld → Phase → List FieldWorld
fields_after reading fields phase =
    let news = all_written fields (phase_writes reading fields phase) in
    fold (kept_more reading) (fold emptied news phase.averages) phase.adds

-- the value of the start rule of a field, if it has one
abbrev pub start_write : Reading → ℕ × Field → Option Write
start_write reading numbered = option_map (λ rule. record { field = numbered.0; values = rule_values reading rule }) numbered.1.start

-- the fields after the start rules
abbrev pub fields_started : Reading → List FieldWorld → List Field → List FieldWorld
fields_started reading fields described = all_written fields (filter_map (start_write reading) (enumerate_from 0 described))

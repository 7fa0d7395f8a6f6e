-- What one operation of a run finds amiss, in rising places, and the least of faults.
use Rattle.std.specs.Prelude.{ℕ, ◌+◌, ◌-◌, ◌*◌, ℤ, ◌+ℤ◌, Bool, true, false, ◌&&◌, ◌||◌, ◌==◌, nat_lt, int_le, if◌then◌else◌, List, [], ◌∷◌, ◌++◌, Option, Some, None, slice_get}
use Rattle.std.specs.List.{enumerate_from, flat_map, list_any}
use Rattle.std.specs.Option.{option_map_or}
use Rattle.std.specs.Ordering.{int_eq}
use Rattle.cpl_comp.specs.Components.{rules_of}
use Rattle.cpl_comp.specs.Halos.{has_read, is_field_at}
use Rattle.cpl_comp.specs.Turns.{Turn, places_of}
use Rattle.cpl_comp.specs.Worlds.{CompWorld, FieldWorld, active_cells, field_at, field_value}
use Rattle.cpl_comp.specs.declared.component.Comp.{Comp}
use Rattle.cpl_comp.specs.declared.component.Kind.{Kind}
use Rattle.cpl_comp.specs.declared.component.Kind.TheVariants.{Model, Mediator}
use Rattle.cpl_comp.specs.declared.component.Phase.{Phase}
use Rattle.cpl_comp.specs.declared.component.RangeRow.{RangeRow}
use Rattle.cpl_comp.specs.declared.component.Role.TheVariants.{Import as ImportRole}
use Rattle.cpl_comp.specs.declared.component.Wanted.{Wanted}
use Rattle.cpl_comp.specs.declared.component.Wanted.TheVariants.{Current, Next, Unchecked}
use Rattle.cpl_comp.specs.declared.found.FoundKind.{FoundKind}
use Rattle.cpl_comp.specs.declared.found.FoundKind.TheVariants.{Clock, Import, Average, Range}
use Rattle.cpl_grid.specs.Owners.{Layout}

-- A fault by its place among those of its operation: 0 is the clock, from 1 on come the imports, from 65 on the
-- averages, and from 129 on the ranges, eight places a cell.
pub record Fault : Type 0 where
  pub place : ℕ
  pub kind : FoundKind

-- no fault where a test holds, else this one
abbrev pub unless : Bool → ℕ → FoundKind → List Fault
unless true place kind = []
unless false place kind = record { place = place; kind = kind } ∷ []

-- of two things, the one of the lesser number, and the first where they are equal
abbrev pub lesser : {A : Type 0} → (A → ℕ) → Option A → A → Option A
lesser number None found = Some found
lesser number (Some best) found = if nat_lt (number found) (number best) then Some found else Some best

-- ---- the clock

-- a model's clock must stand at the time at which the step begins
abbrev pub clock_faults : Kind → Turn → ℤ → List Fault
clock_faults Model turn clock = unless (int_eq clock turn.time) 0 (Clock clock turn.time)
clock_faults Mediator turn clock = []

-- ---- stamps of imports

-- whether a phase reads a field by a rule or in a merge
abbrev pub is_read : Phase → ℕ → Bool
is_read phase k =
    list_any (has_read (λ read. is_field_at k read.name)) (rules_of phase)
    || list_any (λ row. list_any (λ term. term.0 == k || term.1 == k) row.terms) phase.merges

-- whether a run looks at the stamp of an import that has an export: of a model always, of a mediator where the phase
-- reads it
abbrev pub is_checked : Kind → Phase → ℕ → Bool
is_checked Model phase k = true
is_checked Mediator phase k = is_read phase k

-- the stamp that an import must have
abbrev pub wanted_stamp : Wanted → Turn → Option ℤ
wanted_stamp Current turn = Some turn.time
wanted_stamp Next turn = Some (turn.time +ℤ turn.step)
wanted_stamp Unchecked turn = None

-- whether a stamp is this time
abbrev pub is_stamp : Option ℤ → ℤ → Bool
is_stamp None time = false
is_stamp (Some stamp) time = int_eq stamp time

-- the stamp that the import of a place must have, if it is checked: it has an export, and the phase's run looks at it
abbrev pub wanted_of : Comp → Phase → Turn → (ℕ → Bool) → ℕ → Option ℤ
wanted_of comp phase turn connected k =
    if connected k && is_checked comp.kind phase k
    then option_map_or (λ field. wanted_stamp field.wanted turn) (slice_get comp.fields k) None
    else None

-- the import of a place, with its number among the imports, must have its stamp
abbrev pub import_fault : Comp → Phase → Turn → (ℕ → Bool) → List FieldWorld → ℕ × ℕ → List Fault
import_fault comp phase turn connected fields numbered =
    let stamp = (field_at fields numbered.1).stamp in
    option_map_or
    (λ time. unless (is_stamp stamp time) (1 + numbered.0) (Import numbered.1 stamp time))
    (wanted_of comp phase turn connected numbered.1) []

-- all imports
abbrev pub import_faults : Comp → Phase → Turn → (ℕ → Bool) → List FieldWorld → List Fault
import_faults comp phase turn connected fields =
    flat_map (import_fault comp phase turn connected fields) (enumerate_from 0 (places_of ImportRole comp.fields))

-- ---- averages

-- whether something was kept
abbrev pub has_kept : List (List ℤ) → Bool
has_kept [] = false
has_kept (first ∷ more) = true

-- something must have been kept for the field of an average
abbrev pub average_fault : List FieldWorld → ℕ × ℕ → List Fault
average_fault fields numbered = unless (has_kept (field_at fields numbered.1).kept) (65 + numbered.0) (Average numbered.1)

-- all averages of a phase
abbrev pub average_faults : List FieldWorld → Phase → List Fault
average_faults fields phase = flat_map (average_fault fields) (enumerate_from 0 phase.averages)

-- ---- ranges

-- a value lies in a range, ends included
abbrev pub is_in_range : RangeRow → ℤ → Bool
is_in_range row value = int_le row.low value && int_le value row.high

-- the value of a field at a cell must lie in its range
abbrev pub range_fault : List FieldWorld → ℕ → ℕ × RangeRow → List Fault
range_fault fields s numbered =
    let row = numbered.1 in
    let value = field_value fields row.field s in
    unless (is_in_range row value) (129 + (s - 1) * 8 + numbered.0) (Range row.field s value row.low row.high)

-- all ranges at a cell
abbrev pub cell_faults : List FieldWorld → List RangeRow → ℕ → List Fault
cell_faults fields rows s = flat_map (range_fault fields s) (enumerate_from 0 rows)

-- all ranges at the cells that take part
abbrev pub range_faults : Layout → List FieldWorld → List RangeRow → List Fault
range_faults layout fields rows = flat_map (cell_faults fields rows) (active_cells layout)

-- ---- an operation

-- what the first operation of a step checks: the clock, and the stamps of the imports that have an export
abbrev pub first_faults : Comp → Phase → Turn → (ℕ → Bool) → CompWorld → List Fault
first_faults comp phase turn connected world =
    if turn.first then clock_faults comp.kind turn world.clock ++ import_faults comp phase turn connected world.fields else []

-- what an operation of a phase finds, given the component before it and the fields after it
abbrev pub run_faults : Comp → Phase → Turn → (ℕ → Bool) → CompWorld → List FieldWorld → List Fault
run_faults comp phase turn connected world after =
    first_faults comp phase turn connected world
    ++ average_faults world.fields phase
    ++ range_faults comp.decomp after phase.ranges

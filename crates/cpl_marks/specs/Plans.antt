-- What the runs of a phase look at and stamp, and the faults that a look finds.
use Rattle.std.specs.Prelude.{◌≡◌, ℕ, ◌+◌, ◌<◌, ℤ, Bool, false, ◌&&◌, if◌then◌else◌, List, [], ◌++◌, slice_get, slice_index_or, All, Option, Some, None}
use Rattle.std.specs.List.{enumerate_from, filter_map, flat_map}
use Rattle.std.specs.Option.{option_map_or}
use Rattle.cpl_comp.specs.Marks.{CompMarks}
use Rattle.cpl_comp.specs.RunFaults.{Fault, clock_faults, is_checked, is_stamp, unless, wanted_stamp}
use Rattle.cpl_comp.specs.Turns.{Turn, places_of, stamped_exports}
use Rattle.cpl_comp.specs.declared.component.Comp.{Comp}
use Rattle.cpl_comp.specs.declared.component.Field.{Field}
use Rattle.cpl_comp.specs.declared.component.Kind.{Kind}
use Rattle.cpl_comp.specs.declared.component.Phase.{Phase}
use Rattle.cpl_comp.specs.declared.component.Role.TheVariants.{Import as ImportRole}
use Rattle.cpl_comp.specs.declared.component.Wanted.{Wanted}
use Rattle.cpl_comp.specs.declared.component.Wanted.TheVariants.{Current, Next, Unchecked}
use Rattle.cpl_comp.specs.declared.found.FoundKind.TheVariants.{Import}
use Rattle.cpl_marks.specs.declared.plan.CheckedImport.{CheckedImport}
use Rattle.cpl_marks.specs.declared.plan.StampPlan.{StampPlan}

-- whether the field of a place has an export, by a list that says so of each field
abbrev pub is_connected : List Bool → ℕ → Bool
is_connected connected k = slice_index_or connected k false

-- ---- what is looked at

-- whether the import of a place has an export and the phase's runs look at it
abbrev pub is_looked_at : Comp → Phase → List Bool → ℕ → Bool
is_looked_at comp phase connected k = is_connected connected k && is_checked comp.kind phase k

-- the stamp that the field of a place must have
abbrev pub wanted_at : List Field → ℕ → Wanted
wanted_at fields k = option_map_or (λ field. field.wanted) (slice_get fields k) Unchecked

-- an import of this number and place, if it must have a stamp
abbrev pub import_check : ℕ × ℕ → Wanted → Option CheckedImport
import_check numbered Current = Some (record { number = numbered.0; field = numbered.1; wanted = Current })
import_check numbered Next = Some (record { number = numbered.0; field = numbered.1; wanted = Next })
import_check numbered Unchecked = None

-- that, if the phase's runs look at it
abbrev pub checked_import : Comp → Phase → List Bool → ℕ × ℕ → Option CheckedImport
checked_import comp phase connected numbered =
    if is_looked_at comp phase connected numbered.1 then import_check numbered (wanted_at comp.fields numbered.1) else None

-- all imports whose stamps are looked at, each with its number among the imports
abbrev pub checked_imports : Comp → Phase → List Bool → List CheckedImport
checked_imports comp phase connected = filter_map (checked_import comp phase connected) (enumerate_from 0 (places_of ImportRole comp.fields))

-- The plan of a phase of a component, whose fields are so connected.
pub record IsPlanOf (comp : Comp) (phase : Phase) (connected : List Bool) (plan : StampPlan) : Type 0 where
  pub checked : plan.checked ≡ checked_imports comp phase connected
  pub stamped : plan.stamped ≡ stamped_exports comp.kind comp phase

-- A plan over so many fields: all places are below their number.
pub record IsPlanWithin (count : ℕ) (plan : StampPlan) : Type 0 where
  pub checked : All (λ import. import.field < count) plan.checked
  pub stamped : All (λ k. k < count) plan.stamped

-- ---- what is found

-- the stamp of the field of a place
abbrev pub stamp_at : List (Option ℤ) → ℕ → Option ℤ
stamp_at stamps k = slice_index_or stamps k None

-- a stamp of an import that isn't the wanted one
abbrev pub stamp_fault : Turn → List (Option ℤ) → CheckedImport → List Fault
stamp_fault turn stamps import =
    let stamp = stamp_at stamps import.field in
    option_map_or
    (λ time. unless (is_stamp stamp time) (1 + import.number) (Import import.field stamp time))
    (wanted_stamp import.wanted turn) []

-- the faults of the imports of a plan
abbrev pub stamp_faults : Turn → List (Option ℤ) → List CheckedImport → List Fault
stamp_faults turn stamps checked = flat_map (stamp_fault turn stamps) checked

-- what the first operation of a step finds by a plan
abbrev pub mark_faults : Kind → StampPlan → Turn → CompMarks → List Fault
mark_faults kind plan turn marks =
    if turn.first then clock_faults kind turn marks.clock ++ stamp_faults turn marks.stamps plan.checked else []

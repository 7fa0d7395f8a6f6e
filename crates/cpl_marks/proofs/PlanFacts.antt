-- What is found and stamped by a plan is what components say.
use Rattle.std.proofs.Common.{◌≡◌, ℕ, ◌+◌, Bool, true, false, List, [], ◌++◌, get_or, refl, sym, ap, ◌∙◌}
use Rattle.std.specs.Prelude.{ℤ, map, Option, Some, None, slice_get, if◌then◌else◌}
use Rattle.std.specs.List.{enumerate_from}
use Rattle.std.specs.Option.{option_map_or}
use Rattle.std.proofs.Math.ListN.{get_or-map}
use Rattle.cpl_comp.specs.Marks.{CompMarks, marks_of}
use Rattle.cpl_comp.specs.RunFaults.{Fault, clock_faults, first_faults, import_fault, import_faults, is_stamp, unless, wanted_stamp}
use Rattle.cpl_comp.specs.Turns.{Turn, places_of}
use Rattle.cpl_comp.specs.Worlds.{CompWorld, FieldWorld, no_field}
use Rattle.cpl_comp.specs.declared.component.Comp.{Comp}
use Rattle.cpl_comp.specs.declared.component.Field.{Field}
use Rattle.cpl_comp.specs.declared.component.Kind.{Kind}
use Rattle.cpl_comp.specs.declared.component.Phase.{Phase}
use Rattle.cpl_comp.specs.declared.component.Role.TheVariants.{Import as ImportRole}
use Rattle.cpl_comp.specs.declared.component.Wanted.{Wanted}
use Rattle.cpl_comp.specs.declared.component.Wanted.TheVariants.{Current, Next, Unchecked}
use Rattle.cpl_comp.specs.declared.found.FoundKind.TheVariants.{Import}
use Rattle.cpl_marks.specs.Plans.{IsPlanOf, checked_import, import_check, is_connected, is_looked_at, mark_faults, stamp_fault, stamp_faults, wanted_at}
use Rattle.cpl_marks.specs.declared.plan.CheckedImport.{CheckedImport}
use Rattle.cpl_marks.specs.declared.plan.StampPlan.{StampPlan}
use Rattle.cpl_marks.proofs.ListFacts.{flat_map-filter_map}

-- the field of an import that must have a stamp is the one of its place
check-field : (numbered : ℕ × ℕ) (wanted : Wanted) → option_map_or (λ (import : CheckedImport). import.field) (import_check numbered wanted) numbered.1 ≡ numbered.1
check-field numbered Current = refl
check-field numbered Next = refl
check-field numbered Unchecked = refl

looked-field : (looked : Bool) (numbered : ℕ × ℕ) (wanted : Wanted)
    → option_map_or (λ (import : CheckedImport). import.field) (if looked then import_check numbered wanted else None) numbered.1 ≡ numbered.1
looked-field true numbered wanted = check-field numbered wanted
looked-field false numbered wanted = refl

-- and so is that of an import that is looked at
pub checked_import-field : (comp : Comp) (phase : Phase) (connected : List Bool) (numbered : ℕ × ℕ) (import : CheckedImport)
    → checked_import comp phase connected numbered ≡ Some import → import.field ≡ numbered.1
checked_import-field comp phase connected numbered import is =
    ap (λ (o : Option CheckedImport). option_map_or (λ (import : CheckedImport). import.field) o numbered.1) (sym is)
    ∙ looked-field (is_looked_at comp phase connected numbered.1) numbered (wanted_at comp.fields numbered.1)

-- what is found at an import that must have a stamp, if any
abbrev found_at : Option ℤ → ℕ × ℕ → Option ℤ → List Fault
found_at stamp numbered wanted = option_map_or (λ time. unless (is_stamp stamp time) (1 + numbered.0) (Import numbered.1 stamp time)) wanted []

-- the import of a plan finds the same, for each demand
wanted-same : (turn : Turn) (stamps : List (Option ℤ)) (numbered : ℕ × ℕ) (wanted : Wanted)
    → found_at (get_or stamps numbered.1 None) numbered (wanted_stamp wanted turn) ≡ option_map_or (stamp_fault turn stamps) (import_check numbered wanted) []
wanted-same turn stamps numbered Current = refl
wanted-same turn stamps numbered Next = refl
wanted-same turn stamps numbered Unchecked = refl

field-same : (turn : Turn) (stamps : List (Option ℤ)) (numbered : ℕ × ℕ) (field : Option Field)
    → found_at (get_or stamps numbered.1 None) numbered (option_map_or (λ field. wanted_stamp field.wanted turn) field None)
    ≡ option_map_or (stamp_fault turn stamps) (import_check numbered (option_map_or (λ (field : Field). field.wanted) field Unchecked)) []
field-same turn stamps numbered None = refl
field-same turn stamps numbered (Some field) = wanted-same turn stamps numbered field.wanted

looked-same : (comp : Comp) (turn : Turn) (stamps : List (Option ℤ)) (numbered : ℕ × ℕ) (looked : Bool)
    → found_at (get_or stamps numbered.1 None) numbered (if looked then option_map_or (λ field. wanted_stamp field.wanted turn) (slice_get comp.fields numbered.1) None else None)
    ≡ option_map_or (stamp_fault turn stamps) (if looked then import_check numbered (wanted_at comp.fields numbered.1) else None) []
looked-same comp turn stamps numbered true = field-same turn stamps numbered (slice_get comp.fields numbered.1)
looked-same comp turn stamps numbered false = refl

-- the faults of an import
import-same : (comp : Comp) (phase : Phase) (turn : Turn) (connected : List Bool) (fields : List FieldWorld) (numbered : ℕ × ℕ)
    → import_fault comp phase turn (is_connected connected) fields numbered
    ≡ option_map_or (stamp_fault turn (map (λ field. field.stamp) fields)) (checked_import comp phase connected numbered) []
import-same comp phase turn connected fields numbered =
    let wanted = if is_looked_at comp phase connected numbered.1 then option_map_or (λ (field : Field). wanted_stamp field.wanted turn) (slice_get comp.fields numbered.1) None else None in
    ap (λ stamp. found_at stamp numbered wanted) (sym (get_or-map (λ (field : FieldWorld). field.stamp) fields numbered.1 no_field))
    ∙ looked-same comp turn (map (λ field. field.stamp) fields) numbered (is_looked_at comp phase connected numbered.1)

-- those of all imports
imports-same : (comp : Comp) (phase : Phase) (turn : Turn) (connected : List Bool) (fields : List FieldWorld) (plan : StampPlan) → IsPlanOf comp phase connected plan
    → stamp_faults turn (map (λ field. field.stamp) fields) plan.checked ≡ import_faults comp phase turn (is_connected connected) fields
imports-same comp phase turn connected fields plan is =
    ap (stamp_faults turn (map (λ field. field.stamp) fields)) is.checked
    ∙ sym (flat_map-filter_map (import_fault comp phase turn (is_connected connected) fields) (stamp_fault turn (map (λ field. field.stamp) fields)) (checked_import comp phase connected)
    (import-same comp phase turn connected fields) (enumerate_from 0 (places_of ImportRole comp.fields)))

first-same : (comp : Comp) (phase : Phase) (turn : Turn) (connected : List Bool) (world : CompWorld) (plan : StampPlan) → IsPlanOf comp phase connected plan → (first : Bool)
    → (if first then clock_faults comp.kind turn world.clock ++ stamp_faults turn (marks_of world).stamps plan.checked else [])
    ≡ (if first then clock_faults comp.kind turn world.clock ++ import_faults comp phase turn (is_connected connected) world.fields else [])
first-same comp phase turn connected world plan is true =
    ap (λ faults. clock_faults comp.kind turn world.clock ++ faults) (imports-same comp phase turn connected world.fields plan is)
first-same comp phase turn connected world plan is false = refl

-- what the first operation finds
pub faults-same : (kind : Kind) (marks : CompMarks) (comp : Comp) (phase : Phase) (turn : Turn) (connected : List Bool) (world : CompWorld) (plan : StampPlan)
    → IsPlanOf comp phase connected plan → comp.kind ≡ kind → marks_of world ≡ marks
    → mark_faults kind plan turn marks ≡ first_faults comp phase turn (is_connected connected) world
faults-same kind marks comp phase turn connected world plan is same held =
    (λ i. mark_faults (sym same i) plan turn (sym held i)) ∙ first-same comp phase turn connected world plan is turn.first

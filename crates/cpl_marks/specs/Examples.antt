-- The definitions of plans, marks and faults, evaluated on examples.
use Rattle.std.specs.Prelude.{◌≡◌, pos, Bool, true, false, List, [], ◌∷◌, Some, None}
use Rattle.cpl_comp.specs.Marks.{CompMarks, marks_after_init, marks_after_run}
use Rattle.cpl_comp.specs.Turns.{Turn, stamped_exports}
use Rattle.cpl_comp.specs.declared.component.Comp.{Comp}
use Rattle.cpl_comp.specs.declared.component.Field.{Field}
use Rattle.cpl_comp.specs.declared.component.Kind.{Kind}
use Rattle.cpl_comp.specs.declared.component.Kind.TheVariants.{Model, Mediator}
use Rattle.cpl_comp.specs.declared.component.Phase.{Phase}
use Rattle.cpl_comp.specs.declared.component.Role.TheVariants.{Import as ImportRole, Export as ExportRole}
use Rattle.cpl_comp.specs.declared.component.Wanted.TheVariants.{Current, Next, Unchecked}
use Rattle.cpl_comp.specs.declared.found.FoundKind.TheVariants.{Clock, Import}
use Rattle.cpl_marks.specs.Faults.{least_fault}
use Rattle.cpl_marks.specs.Plans.{checked_imports, mark_faults}
use Rattle.cpl_marks.specs.declared.plan.StampPlan.{StampPlan}

-- Five fields: an import that must have the stamp of the end of the step, an export, an import whose stamp isn't looked at,
-- an export, and an import that must have the stamp of the beginning.
abbrev pub five_fields : Field → List Field
five_fields field =
    record field { role = ImportRole; wanted = Next }
    ∷ record field { role = ExportRole; wanted = Current }
    ∷ record field { role = ImportRole; wanted = Unchecked }
    ∷ record field { role = ExportRole; wanted = Current }
    ∷ record field { role = ImportRole; wanted = Current }
    ∷ []

-- a component of these fields
abbrev pub of_five : Kind → Comp → Field → Comp
of_five kind comp field = record comp { kind = kind; fields = five_fields field }

-- a phase that merges the first field into the fourth
abbrev pub merging : Phase → Phase
merging phase = record phase { sets = []; merges = record { field = 3; terms = (0, 0) ∷ [] } ∷ []; adds = []; averages = [] }

-- each import has an export
abbrev pub all_imports : List Bool
all_imports = true ∷ false ∷ true ∷ false ∷ true ∷ []

-- the only operation of a quarter of an hour, one hour after the start
abbrev pub after_hour : Turn
after_hour = record { time = pos 3600; step = pos 900; at = pos 3600; substep = pos 900; first = true; last = true }

-- a clock that stands at the start, after four runs, and only the first field has a stamp
abbrev pub one_stamped : CompMarks
one_stamped = record { clock = pos 0; runs = 4; stamps = Some (pos 4500) ∷ None ∷ None ∷ None ∷ None ∷ [] }

-- the plan of a model
abbrev pub model_plan : Comp → Phase → Field → StampPlan
model_plan comp phase field = record {
  checked = checked_imports (of_five Model comp field) (merging phase) all_imports;
  stamped = stamped_exports Model (of_five Model comp field) (merging phase);
}

-- What a model and a mediator look at, stamp and find amiss.
pub record MarksExamples (comp : Comp) (phase : Phase) (field : Field) : Type 0 where
  pub of_model : model_plan comp phase field ≡ record {
    checked = record { number = 0; field = 0; wanted = Next } ∷ record { number = 2; field = 4; wanted = Current } ∷ [];
    stamped = 1 ∷ 3 ∷ [];
  }
  pub of_mediator : checked_imports (of_five Mediator comp field) (merging phase) all_imports ≡ record { number = 0; field = 0; wanted = Next } ∷ []
  pub written : stamped_exports Mediator (of_five Mediator comp field) (merging phase) ≡ 3 ∷ []
  pub found : mark_faults Model (model_plan comp phase field) after_hour one_stamped
      ≡ record { place = 0; kind = Clock (pos 0) (pos 3600) } ∷ record { place = 3; kind = Import 4 None (pos 3600) } ∷ []
  pub least : least_fault None (mark_faults Model (model_plan comp phase field) after_hour one_stamped)
      ≡ Some (record { place = 0; kind = Clock (pos 0) (pos 3600) })
  pub model_end : marks_after_run (of_five Model comp field) (merging phase) after_hour one_stamped
      ≡ record { clock = pos 4500; runs = 5; stamps = Some (pos 4500) ∷ Some (pos 4500) ∷ None ∷ Some (pos 4500) ∷ None ∷ [] }
  pub mediator_end : marks_after_run (of_five Mediator comp field) (merging phase) after_hour one_stamped
      ≡ record { clock = pos 3600; runs = 5; stamps = Some (pos 4500) ∷ None ∷ None ∷ Some (pos 3600) ∷ None ∷ [] }
  pub started : marks_after_init (of_five Model comp field) one_stamped
      ≡ record { clock = pos 0; runs = 4; stamps = Some (pos 4500) ∷ Some (pos 0) ∷ None ∷ Some (pos 0) ∷ None ∷ [] }

-- What of a component doesn't depend on values: its clock, its number of runs and the stamps of its fields.
use Rattle.std.specs.Prelude.{ℕ, ◌+◌, ℤ, pos, if◌then◌else◌, List, fold, map, Option, Some}
use Rattle.cpl_comp.specs.Turns.{Turn, places_of, stamped_exports, step_end}
use Rattle.cpl_comp.specs.Worlds.{CompWorld, changed}
use Rattle.cpl_comp.specs.declared.component.Comp.{Comp}
use Rattle.cpl_comp.specs.declared.component.Phase.{Phase}
use Rattle.cpl_comp.specs.declared.component.Role.TheVariants.{Export}

-- A component without its values: where its clock stands, how many runs have ended, and the stamp of each field.
pub record CompMarks : Type 0 where
  pub clock : ℤ
  pub runs : ℕ
  pub stamps : List (Option ℤ)

-- that of a component
abbrev pub marks_of : CompWorld → CompMarks
marks_of comp = record { clock = comp.clock; runs = comp.runs; stamps = map (λ field. field.stamp) comp.fields }

-- stamps with those of some places set to a time
abbrev pub stamps_at : ℤ → List (Option ℤ) → List ℕ → List (Option ℤ)
stamps_at time stamps places = fold (λ xs k. changed (λ stamp. Some time) k xs) stamps places

-- the marks after an operation of a phase
abbrev pub marks_after_run : Comp → Phase → Turn → CompMarks → CompMarks
marks_after_run comp phase turn marks =
    if turn.last then record {
      clock = step_end comp.kind turn;
      runs = marks.runs + 1;
      stamps = stamps_at (step_end comp.kind turn) marks.stamps (stamped_exports comp.kind comp phase);
    } else marks

-- the marks after an initialisation
abbrev pub marks_after_init : Comp → CompMarks → CompMarks
marks_after_init comp marks = record marks { stamps = stamps_at (pos 0) marks.stamps (places_of Export comp.fields) }

-- What holds of the world all through a run, and what of it doesn't depend on values.
use Rattle.std.specs.Prelude.{◌≡◌, ℕ, ℤ, pos, Bool, true, List, [], fold, length, map, slice_get, slice_index_or, Option, Some, None}
use Rattle.std.specs.Option.{option_map_or}
use Rattle.cpl_comp.specs.Held.{AreHeld}
use Rattle.cpl_comp.specs.Marks.{CompMarks, marks_after_init, marks_after_run, marks_of}
use Rattle.cpl_comp.specs.Turns.{Turn, has_role}
use Rattle.cpl_comp.specs.Worlds.{changed}
use Rattle.cpl_comp.specs.declared.component.Comp.{Comp}
use Rattle.cpl_comp.specs.declared.component.Phase.{Phase}
use Rattle.cpl_comp.specs.declared.component.Role.TheVariants.{Var}
use Rattle.cpl_grid.specs.Grid.{cells_in}
use Rattle.cpl_match.specs.declared.port.Pair.{Pair}
use Rattle.cpl_sequence.specs.declared.op.Op.{Op}
use Rattle.cpl_sequence.specs.declared.op.Op.TheVariants.{Init, Link as LinkOp, Run}
use Rattle.cpl_script.specs.Couplings.{Coupling}
use Rattle.cpl_script.specs.Transfers.{World, carried_pairs, comp_at}
use Rattle.cpl_script.specs.declared.link.Link.{Link}

-- A world over these components: as many components, each with as many fields, and in each a value for each cell.
pub record IsHeldWorld (comps : List Comp) (world : World) : Type 0 where
  pub size : length world ≡ length comps
  pub each : (c : ℕ) (comp : Comp) → slice_get comps c ≡ Some comp → AreHeld (cells_in comp.decomp.grid) (length comp.fields) (comp_at world c).fields

-- ---- without values

-- no component's marks
abbrev pub no_marks : CompMarks
no_marks = record { clock = pos 0; runs = 0; stamps = [] }

-- the stamp of a field of a component
abbrev pub stamp_in : List CompMarks → ℕ → ℕ → Option ℤ
stamp_in marks component field = slice_index_or (slice_index_or marks component no_marks).stamps field None

-- no variable has a stamp
abbrev pub AreUnstamped : List Comp → List CompMarks → Type 0
AreUnstamped comps marks =
    (c : ℕ) (comp : Comp) (k : ℕ) → slice_get comps c ≡ Some comp → has_role Var comp.fields k ≡ true → stamp_in marks c k ≡ None

-- the marks with the stamp of a pair's export put at its import, as it was before
abbrev pub marks_carried : List CompMarks → List CompMarks → Pair → List CompMarks
marks_carried before marks pair =
    changed (λ comp. record comp { stamps = changed (λ stamp. stamp_in before pair.src pair.src_field) pair.dst_field comp.stamps }) pair.dst marks

-- the marks after an operation of a connector
abbrev pub marks_after_link : List Comp → Link → Bool → List CompMarks → List CompMarks
marks_after_link comps link at_init marks = fold (marks_carried marks) marks (carried_pairs comps link at_init)

-- the marks after an operation of a phase of the component of a place
abbrev pub marks_after_phase : Coupling → List CompMarks → (component phase : ℕ) → Turn → List CompMarks
marks_after_phase coupling marks component phase turn =
    option_map_or
    (λ comp. option_map_or (λ p. changed (marks_after_run comp p turn) component marks) (slice_get comp.phases phase) marks)
    (slice_get coupling.comps component) marks

-- the marks of all components after an operation
abbrev pub marks_after : Coupling → List CompMarks → Op → List CompMarks
marks_after coupling marks (Init component) =
    option_map_or (λ comp. changed (marks_after_init comp) component marks) (slice_get coupling.comps component) marks
marks_after coupling marks (LinkOp link at_init) =
    option_map_or (λ line. marks_after_link coupling.comps line at_init marks) (slice_get coupling.links link) marks
marks_after coupling marks (Run component phase time step at substep first last) =
    marks_after_phase coupling marks component phase (record { time = time; step = step; at = at; substep = substep; first = first; last = last })

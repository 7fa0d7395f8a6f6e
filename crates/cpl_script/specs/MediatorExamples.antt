-- Runs with a mediator, evaluated: kept fields and their means, merges, and what a mediator stamps and checks.
use Rattle.std.specs.Prelude.{◌≡◌, ℕ, ◌+◌, ℤ, pos, negsuc, Bool, true, false, List, [], ◌∷◌, ◌++◌, Option, Some, None}
use Rattle.cpl_comp.specs.declared.component.Comp.{Comp}
use Rattle.cpl_comp.specs.declared.component.Kind.TheVariants.{Model, Mediator}
use Rattle.cpl_comp.specs.declared.component.Wanted.{Wanted}
use Rattle.cpl_comp.specs.declared.component.Wanted.TheVariants.{Current, Next, Unchecked}
use Rattle.cpl_comp.specs.declared.found.FoundKind.TheVariants as kinds
use Rattle.cpl_formula.specs.declared.arguments.Argument.TheVariants.{Number}
use Rattle.cpl_sequence.specs.declared.link_line.Method.TheVariants.{Redist}
use Rattle.cpl_sequence.specs.declared.op.Op.{Op}
use Rattle.cpl_sequence.specs.declared.op.Op.TheVariants.{Init, Link}
use Rattle.cpl_script.specs.Couplings.{Coupling}
use Rattle.cpl_script.specs.Examples.{comp_of, each_second, end_of, ended, entries, export_of, flat_grid, here, import_of, keeping_phase, line_of, link_element, mean_phase, one_loop, only_pair, parts_with, run_at, run_element, same_end, set_of, source, stopped, sum_rule, units, units_rule, var_of}
use Rattle.cpl_script.specs.SerialRun.{outcome_of}
use Rattle.cpl_script.specs.Systems.{coupling_of}

-- a mediator that keeps its import for a variable in one phase and takes the mean in another
abbrev pub averaging : Comp
averaging =
    comp_of Mediator (flat_grid 1 1) 0 1 1 None (var_of (units_rule 0) ∷ import_of Current false ∷ [])
    (keeping_phase 2 [] (set_of 0 (sum_rule (here 1 ∷ [])) ∷ []) ∷ mean_phase 2 (0 ∷ []) ∷ [])

-- a model that doubles what it exports, from 1 on, and this mediator
abbrev pub doubled : Coupling
doubled =
    coupling_of (parts_with (source (flat_grid 1 1) (units_rule 1) (sum_rule (here 0 ∷ here 0 ∷ [])) ∷ averaging ∷ [])
    (one_loop (line_of Redist 0 1 ∷ []) 3 (link_element 0 ∷ run_element 1 ∷ run_element 0 ∷ []))
    (only_pair ∷ []) (0 ∷ 1 ∷ []) (None ∷ []) 1)

-- three steps of connector, mediator and model, and then the mean
abbrev pub keep_three : List Op
keep_three = Init 0 ∷ Init 1 ∷ each_second 0 3 (λ t. Link 0 false ∷ run_at 1 0 t 1 ∷ run_at 0 0 t 1 ∷ [])

-- the mean of nothing, of one and of two values, of which the second mean is of what was kept since the first
abbrev pub mean_twice : List Op
mean_twice =
    Init 0 ∷ Init 1
    ∷ Link 0 false ∷ run_at 1 0 0 1 ∷ run_at 0 0 0 1 ∷ run_at 1 1 0 1
    ∷ Link 0 false ∷ run_at 1 0 1 1 ∷ run_at 0 0 1 1
    ∷ Link 0 false ∷ run_at 1 0 2 1 ∷ run_at 1 1 2 1 ∷ []

-- a mediator that merges its import with itself into an export, which one of its phases stamps
abbrev pub merging : Wanted → Comp
merging wanted =
    comp_of Mediator (flat_grid 1 1) 0 1 1 None (import_of wanted false ∷ export_of (units_rule 0) ∷ export_of (units_rule 7) ∷ [])
    (keeping_phase 3 (record { field = 1; terms = (0, 0) ∷ (0, 1) ∷ [] } ∷ []) [] ∷ mean_phase 3 [] ∷ [])

-- a model that exports one and a half, and this mediator
abbrev pub merged : Wanted → Coupling
merged wanted =
    coupling_of (parts_with (source (flat_grid 1 1) (sum_rule (Number (pos 1500000) ∷ [])) (sum_rule (here 0 ∷ [])) ∷ merging wanted ∷ [])
    (one_loop (line_of Redist 0 1 ∷ []) 1 (link_element 0 ∷ run_element 1 ∷ []))
    (record { src = 0; src_field = 0; dst = 1; dst_field = 0 } ∷ []) (0 ∷ 1 ∷ []) (None ∷ []) 1)

-- Runs with a mediator.
pub record MediatorExamples : Type 0 where
  -- the mean of 1, 2 and 4
  pub mean : outcome_of doubled entries (keep_three ++ run_at 1 1 3 1 ∷ []) false
      ≡ ended 12 (end_of 3 3 (same_end (Some (pos 3)) 1 (units 8) ∷ []) ∷ end_of 4 3 (same_end None 1 (pos 2333333) ∷ same_end (Some (pos 2)) 1 (units 4) ∷ []) ∷ [])
  -- behind which nothing is kept
  pub empty : outcome_of doubled entries (keep_three ++ run_at 1 1 3 1 ∷ run_at 1 1 3 1 ∷ []) false
      ≡ stopped 12 1 65 (kinds.Average 0) (3 ∷ 4 ∷ [])
  -- the mean of 1, and then that of 2 and 4
  pub means : outcome_of doubled entries mean_twice false
      ≡ ended 12 (end_of 2 2 (same_end (Some (pos 2)) 1 (units 4) ∷ []) ∷ end_of 5 2 (same_end None 1 (units 3) ∷ same_end (Some (pos 2)) 1 (units 4) ∷ []) ∷ [])
  -- 1.5 times 1.5, and 1.5 times the old value of what is merged; the phase stamps this export with its time and no other
  pub merge : outcome_of (merged Current) entries (Init 0 ∷ Init 1 ∷ Link 0 false ∷ run_at 1 0 0 1 ∷ run_at 1 0 0 1 ∷ []) false
      ≡ ended 5 (end_of 0 0 (same_end (Some (pos 0)) 1 (pos 1500000) ∷ [])
      ∷ end_of 2 0 (same_end (Some (pos 0)) 1 (pos 1500000) ∷ same_end (Some (pos 0)) 1 (pos 5625000) ∷ same_end (Some (pos 0)) 1 (units 7) ∷ []) ∷ [])
  -- a mediator's clock isn't checked, and follows the time of its phase; its other export keeps the stamp of its initialisation
  pub stamps : outcome_of (merged Unchecked) entries (Init 0 ∷ Init 1 ∷ Link 0 false ∷ run_at 1 0 5 1 ∷ []) false
      ≡ ended 4 (end_of 0 0 (same_end (Some (pos 0)) 1 (pos 1500000) ∷ [])
      ∷ end_of 1 5 (same_end (Some (pos 0)) 1 (pos 1500000) ∷ same_end (Some (pos 5)) 1 (pos 2250000) ∷ same_end (Some (pos 0)) 1 (units 7) ∷ []) ∷ [])
  -- an import that a phase doesn't read isn't checked
  pub unread : outcome_of (merged Current) entries (Init 0 ∷ Init 1 ∷ run_at 1 1 5 1 ∷ []) false
      ≡ ended 3 (end_of 0 0 (same_end (Some (pos 0)) 1 (pos 1500000) ∷ [])
      ∷ end_of 1 5 (same_end None 1 (pos 0) ∷ same_end (Some (pos 0)) 1 (pos 0) ∷ same_end (Some (pos 0)) 1 (units 7) ∷ []) ∷ [])
  pub read : outcome_of (merged Current) entries (Init 0 ∷ Init 1 ∷ run_at 1 0 5 1 ∷ []) false
      ≡ stopped 2 1 1 (kinds.Import 0 None (pos 5)) (0 ∷ 0 ∷ [])

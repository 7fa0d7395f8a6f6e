-- Days of four components on six PETs, evaluated: a mediator, an atmosphere, an ocean and its ice.
use Rattle.std.specs.Prelude.{◌≡◌, ℕ, ◌+◌, ◌*◌, ℤ, pos, Bool, true, false, List, [], ◌∷◌, ◌++◌, Option, Some, None}
use Rattle.std.specs.List.{flat_map, range_with_len}
use Rattle.cpl_comp.specs.declared.component.Comp.{Comp}
use Rattle.cpl_comp.specs.declared.component.Kind.TheVariants.{Model, Mediator}
use Rattle.cpl_comp.specs.declared.component.Rule.TheVariants.{Native}
use Rattle.cpl_comp.specs.declared.component.Wanted.TheVariants.{Current, Next, Unchecked}
use Rattle.cpl_formula.specs.Reads.{read_at}
use Rattle.cpl_formula.specs.declared.arguments.Argument.{Argument}
use Rattle.cpl_formula.specs.declared.arguments.Argument.TheVariants.{Number, Cell}
use Rattle.cpl_formula.specs.declared.formula.ReadName.TheVariants as names
use Rattle.cpl_match.specs.declared.port.Pair.{Pair}
use Rattle.cpl_sequence.specs.Sequence.{Sequence}
use Rattle.cpl_sequence.specs.declared.element.Element.{Element, roll-Element}
use Rattle.cpl_sequence.specs.declared.element.Element.TheOpen as element
use Rattle.cpl_sequence.specs.declared.link_line.LinkLine.{LinkLine}
use Rattle.cpl_sequence.specs.declared.link_line.Method.TheVariants.{Redist}
use Rattle.cpl_sequence.specs.declared.op.Op.{Op}
use Rattle.cpl_sequence.specs.declared.op.Op.TheVariants.{Init, Link}
use Rattle.cpl_script.specs.Couplings.{Coupling}
use Rattle.cpl_script.specs.Examples.{cell_number, comp_of, end_of, ended, entries, export_of, field_range, flat_grid, here, import_of, keeping_phase, line_of, link_element, mean_phase, parts_with, phase_of, run_at, run_element, set_of, sum_rule, units, units_rule, var_of}
use Rattle.cpl_script.specs.Operations.{init_ops, ops_of}
use Rattle.cpl_script.specs.SerialRun.{outcome_of}
use Rattle.cpl_script.specs.Systems.{coupling_of}
use Rattle.cpl_script.specs.declared.outcome.FieldEnd.{FieldEnd}
use Rattle.cpl_script.specs.declared.outcome.Outcome.{Outcome}

-- ---- components

-- the hour of the day
abbrev pub hour : Argument
hour = Cell (read_at names.Hour (pos 0) (pos 0))

-- A mediator on all PETs: it hands the ocean's temperature on, merges the flux with the ice, and takes the mean of fluxes.
abbrev pub mediator : Comp
mediator =
    comp_of Mediator (flat_grid 4 3) 0 3 2 None
    (var_of (units_rule 0)
    ∷ import_of Next false ∷ import_of Next false ∷ import_of Unchecked true
    ∷ export_of (sum_rule (here 3 ∷ [])) ∷ export_of (units_rule 0) ∷ [])
    (phase_of 6 (set_of 4 (sum_rule (here 3 ∷ [])) ∷ []) []
    ∷ keeping_phase 6 (record { field = 0; terms = (1, 2) ∷ [] } ∷ []) (set_of 5 (sum_rule (here 1 ∷ [])) ∷ [])
    ∷ mean_phase 6 (5 ∷ []) ∷ [])

-- an atmosphere whose flux is the hour and the number of the cell
abbrev pub atmosphere : Comp
atmosphere =
    comp_of Model (flat_grid 4 3) 0 2 2 None
    (var_of (units_rule 0) ∷ import_of Current false ∷ export_of (units_rule 0) ∷ [])
    (phase_of 3 (set_of 0 (sum_rule (here 1 ∷ [])) ∷ set_of 2 (sum_rule (hour ∷ cell_number ∷ [])) ∷ []) [] ∷ [])

-- an ocean that gets as much warmer as it takes in
abbrev pub ocean : Comp
ocean =
    comp_of Model (flat_grid 6 2) 4 2 1 None
    (import_of Current false ∷ export_of (units_rule 10) ∷ [])
    (phase_of 2 (set_of 1 (sum_rule (here 1 ∷ here 0 ∷ [])) ∷ []) [] ∷ [])

-- ice, and how much of it there was in all
abbrev pub ice : Comp
ice =
    comp_of Model (flat_grid 6 2) 2 3 1 None
    (var_of (units_rule 0) ∷ import_of Current false ∷ export_of (units_rule 0) ∷ [])
    (phase_of 3 (set_of 0 (Native 3 (here 0 ∷ here 1 ∷ [])) ∷ set_of 2 (Native 3 (Number (pos 0) ∷ here 1 ∷ [])) ∷ []) [] ∷ [])

-- ---- the system

-- the connectors, in the order of their first lines
abbrev pub lines : List LinkLine
lines = line_of Redist 0 1 ∷ line_of Redist 0 3 ∷ line_of Redist 1 0 ∷ line_of Redist 3 0 ∷ line_of Redist 0 2 ∷ line_of Redist 2 0 ∷ []

-- what feeds each import
abbrev pub pair_of : (src src_field dst dst_field : ℕ) → Pair
pair_of src src_field dst dst_field = record { src = src; src_field = src_field; dst = dst; dst_field = dst_field }

abbrev pub pairs : List Pair
pairs = pair_of 1 2 0 1 ∷ pair_of 3 2 0 2 ∷ pair_of 2 1 0 3 ∷ pair_of 0 4 1 1 ∷ pair_of 0 5 2 0 ∷ pair_of 0 4 3 1 ∷ []

-- a phase of the mediator
abbrev pub phase_element : ℕ → Element
phase_element phase = roll-Element (element.Run 0 phase None)

-- hours of two half hours
abbrev pub hourly : Sequence
hourly = record {
  links = lines;
  loops = record {
    begin = 0;
    step = 3600;
    duration = 3600;
    body =
        roll-Element (element.Loop 1800 3600
        (phase_element 0 ∷ link_element 0 ∷ link_element 1 ∷ run_element 1 ∷ run_element 3 ∷ link_element 2 ∷ link_element 3 ∷ phase_element 1 ∷ []))
        ∷ phase_element 2 ∷ link_element 4 ∷ run_element 2 ∷ link_element 5 ∷ [];
  } ∷ [];
  span = pos 3600;
}

-- the four components, initialised in their order: the mediator needs the ocean
abbrev pub earth : Coupling
earth = coupling_of (parts_with (mediator ∷ atmosphere ∷ ocean ∷ ice ∷ []) hourly pairs (1 ∷ 2 ∷ 0 ∷ 3 ∷ []) (None ∷ None ∷ None ∷ None ∷ None ∷ None ∷ []) 6)

-- ---- operations

-- the initialisation
abbrev pub first_ops : List Op
first_ops = Init 1 ∷ Init 2 ∷ Link 5 true ∷ Init 0 ∷ Init 3 ∷ []

-- half an hour from a time on
abbrev pub half_hour : ℕ → List Op
half_hour time =
    run_at 0 0 time 1800 ∷ Link 0 false ∷ Link 1 false ∷ run_at 1 0 time 1800 ∷ run_at 3 0 time 1800
    ∷ Link 2 false ∷ Link 3 false ∷ run_at 0 1 time 1800 ∷ []

-- an hour from a time on
abbrev pub hour_ops : ℕ → List Op
hour_ops time =
    half_hour time ++ half_hour (time + 1800)
    ++ run_at 0 2 time 3600 ∷ Link 4 false ∷ run_at 2 0 time 3600 ∷ Link 5 false ∷ []

-- so many hours behind the initialisation
abbrev pub hours : ℕ → List Op
hours count = first_ops ++ flat_map (λ n. hour_ops (n * 3600)) (range_with_len 0 count)

-- ---- ends

-- a field without a stamp, and one with the stamp of a time, by its least and greatest value and its sum in units
abbrev pub plain : (low high sum : ℕ) → FieldEnd
plain low high sum = field_range None low high sum

abbrev pub at : (time low high sum : ℕ) → FieldEnd
at time low high sum = field_range (Some (pos time)) low high sum

-- what a day comes to
abbrev pub day_end : Outcome
day_end = ended 485 (
    end_of 120 82800 (plain 0 0 0 ∷ at 86400 24 35 354 ∷ at 86400 0 0 0 ∷ at 86400 310 574 5304 ∷ at 84600 286 539 4950 ∷ at 82800 24 35 354 ∷ [])
    ∷ end_of 48 86400 (plain 286 539 4950 ∷ at 84600 286 539 4950 ∷ at 86400 24 35 354 ∷ [])
    ∷ end_of 24 86400 (at 82800 24 35 354 ∷ at 86400 310 574 5304 ∷ [])
    ∷ end_of 48 86400 (plain 2 4 26 ∷ at 84600 286 539 4950 ∷ at 86400 0 0 0 ∷ []) ∷ [])

-- What ten days come to: as warm as 2,760 degrees more and 240 for each number of a cell.
abbrev pub ten_days_end : Outcome
ten_days_end = ended 4805 (
    end_of 1200 860400 (plain 0 0 0 ∷ at 864000 24 35 354 ∷ at 864000 0 0 0 ∷ at 864000 3010 5650 51960 ∷ at 862200 2986 5615 51606 ∷ at 860400 24 35 354 ∷ [])
    ∷ end_of 480 864000 (plain 2986 5615 51606 ∷ at 862200 2986 5615 51606 ∷ at 864000 24 35 354 ∷ [])
    ∷ end_of 240 864000 (at 860400 24 35 354 ∷ at 864000 3010 5650 51960 ∷ [])
    ∷ end_of 480 864000 (plain 2 4 26 ∷ at 862200 2986 5615 51606 ∷ at 864000 0 0 0 ∷ []) ∷ [])

-- Days of the four components.
pub record DayExamples : Type 0 where
  pub initialisation : init_ops earth.comps earth.links earth.init ≡ first_ops
  pub first_hour : ops_of earth ≡ hours 1
  pub day : outcome_of earth entries (hours 24) false ≡ day_end
  pub ten_days : outcome_of earth entries (hours 240) false ≡ ten_days_end

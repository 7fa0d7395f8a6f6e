-- Small systems, and what their runs come to.
use Rattle.std.specs.Prelude.{◌≡◌, ℕ, ◌*◌, ◌+◌, ◌-◌, ◌^◌, ℤ, pos, negsuc, ◌+ℤ◌, ◌-ℤ◌, Bool, true, false, List, [], ◌∷◌, ◌++◌, map, length, Option, Some, None}
use Rattle.std.specs.Int.{int_max, int_min}
use Rattle.std.specs.List.{flat_map, range_with_len}
use Rattle.cpl_base.specs.Numbers.{clip, million}
use Rattle.cpl_base.specs.Rounding.{product_of, quotient_of}
use Rattle.cpl_calendar.specs.declared.calendar.Cal.TheVariants.{NoLeap}
use Rattle.cpl_comp.specs.Halos.{halo_of}
use Rattle.cpl_comp.specs.Readings.{EntryAnswers}
use Rattle.cpl_comp.specs.Realised.{start_rules}
use Rattle.cpl_comp.specs.declared.component.Comp.{Comp}
use Rattle.cpl_comp.specs.declared.component.Field.{Field}
use Rattle.cpl_comp.specs.declared.component.Kind.{Kind}
use Rattle.cpl_comp.specs.declared.component.Kind.TheVariants.{Model, Mediator}
use Rattle.cpl_comp.specs.declared.component.MergeRow.{MergeRow}
use Rattle.cpl_comp.specs.declared.component.Phase.{Phase}
use Rattle.cpl_comp.specs.declared.component.RangeRow.{RangeRow}
use Rattle.cpl_comp.specs.declared.component.Role.TheVariants.{Var, Import, Export}
use Rattle.cpl_comp.specs.declared.component.Rule.{Rule}
use Rattle.cpl_comp.specs.declared.component.Rule.TheVariants.{Plain, Native}
use Rattle.cpl_comp.specs.declared.component.SetRow.{SetRow}
use Rattle.cpl_comp.specs.declared.component.Wanted.{Wanted}
use Rattle.cpl_comp.specs.declared.component.Wanted.TheVariants.{Current, Next, Unchecked}
use Rattle.cpl_comp.specs.declared.found.FoundKind.{FoundKind}
use Rattle.cpl_comp.specs.declared.found.FoundKind.TheVariants as kinds
use Rattle.cpl_formula.specs.Reads.{read_at}
use Rattle.cpl_formula.specs.declared.arguments.Argument.{Argument}
use Rattle.cpl_formula.specs.declared.arguments.Argument.TheVariants.{Number, Cell}
use Rattle.cpl_formula.specs.Tree.{choice_of}
use Rattle.cpl_formula.specs.declared.formula.Formula.{Formula, roll-Formula}
use Rattle.cpl_formula.specs.declared.formula.Formula.TheOpen as tree
use Rattle.cpl_formula.specs.declared.formula.ReadName.TheVariants as names
use Rattle.cpl_grid.specs.declared.grid.Grid.{Grid}
use Rattle.cpl_match.specs.declared.port.Pair.{Pair}
use Rattle.cpl_sequence.specs.Sequence.{Sequence}
use Rattle.cpl_sequence.specs.declared.element.Element.{Element, roll-Element}
use Rattle.cpl_sequence.specs.declared.element.Element.TheOpen as element
use Rattle.cpl_sequence.specs.declared.element.TopLoop.{TopLoop}
use Rattle.cpl_sequence.specs.declared.link_line.LinkLine.{LinkLine}
use Rattle.cpl_sequence.specs.declared.link_line.Method.{Method}
use Rattle.cpl_sequence.specs.declared.link_line.Method.TheVariants.{Redist, Weights}
use Rattle.cpl_sequence.specs.declared.op.Op.{Op}
use Rattle.cpl_sequence.specs.declared.op.Op.TheVariants.{Init, Link, Run}
use Rattle.cpl_smm.specs.Rows.{Table}
use Rattle.cpl_trace.specs.declared.row.TraceRow.{TraceRow}
use Rattle.cpl_script.specs.Couplings.{Coupling}
use Rattle.cpl_script.specs.Operations.{ops_of}
use Rattle.cpl_script.specs.Parts.{link_parcel, parcel_of, world_part}
use Rattle.cpl_script.specs.SerialRun.{op_factor, outcome_of, sum_of, world_of}
use Rattle.cpl_script.specs.Systems.{coupling_of, route_total}
use Rattle.cpl_script.specs.declared.outcome.CompEnd.{CompEnd}
use Rattle.cpl_script.specs.declared.outcome.FieldEnd.{FieldEnd}
use Rattle.cpl_script.specs.declared.outcome.Found.{Found}
use Rattle.cpl_script.specs.declared.outcome.Outcome.{Outcome}
use Rattle.cpl_script.specs.declared.parts.SystemParts.{SystemParts}

-- ---- values and rules

-- so many units
abbrev pub units : ℕ → ℤ
units n = pos (n * million)

-- the sum of the inputs
abbrev pub sum_entry : List ℤ → ℤ
sum_entry inputs = clip (sum_of inputs)

-- a value brought a part of the way to another
abbrev pub relax_entry : List ℤ → ℤ
relax_entry (a ∷ b ∷ c ∷ []) = clip (a +ℤ product_of c (clip (b -ℤ a)))
relax_entry inputs = pos 0

-- the product of two inputs
abbrev pub product_entry : List ℤ → ℤ
product_entry (a ∷ b ∷ []) = product_of a b
product_entry inputs = pos 0

-- how much ice there is at a temperature: 1 up to 11 degrees, less up to 12, none above
abbrev pub ice_at : ℤ → ℤ
ice_at degrees = int_min (units 1) (int_max (pos 0) (clip (units 12 -ℤ degrees)))

-- the ice of a temperature, with what the first input has
abbrev pub ice_entry : List ℤ → ℤ
ice_entry (a ∷ b ∷ []) = clip (a +ℤ ice_at b)
ice_entry inputs = pos 0

-- half of the input, and the input
abbrev pub half_more_entry : List ℤ → ℤ
half_more_entry (a ∷ []) = clip (quotient_of a (units 2) +ℤ a)
half_more_entry inputs = pos 0

-- 9 for 1, 10 for 2, 0 for 3 and 10 above
abbrev pub four_entry : List ℤ → ℤ
four_entry (s ∷ []) = choice_of (units 2 -ℤ s) (units 9) (choice_of (s -ℤ units 3) (units 10) (choice_of (s -ℤ units 2) (pos 0) (units 10)))
four_entry inputs = pos 0

-- the entries of the examples
abbrev pub entries : EntryAnswers
entries = sum_entry ∷ relax_entry ∷ product_entry ∷ ice_entry ∷ half_more_entry ∷ four_entry ∷ []

-- a field at the cell itself, and beside it
abbrev pub here : ℕ → Argument
here k = Cell (read_at (names.Field k) (pos 0) (pos 0))

abbrev pub beside : ℕ → ℤ → Argument
beside k dx = Cell (read_at (names.Field k) dx (pos 0))

-- the number of the cell
abbrev pub cell_number : Argument
cell_number = Cell (read_at names.S (pos 0) (pos 0))

-- the sum of arguments, and a number of units
abbrev pub sum_rule : List Argument → Rule
sum_rule arguments = Native 0 arguments

abbrev pub units_rule : ℕ → Rule
units_rule n = sum_rule (Number (units n) ∷ [])

-- ---- components

-- a variable, an import and an export
abbrev pub var_of : Rule → Field
var_of start = record { name = []; role = Var; standard = []; units = []; wanted = Unchecked; optional = false; at_init = false; start = Some start; line = 0 }

abbrev pub import_of : Wanted → Bool → Field
import_of wanted at_init = record { name = []; role = Import; standard = []; units = []; wanted = wanted; optional = false; at_init = at_init; start = None; line = 0 }

abbrev pub export_of : Rule → Field
export_of start = record { name = []; role = Export; standard = []; units = []; wanted = Unchecked; optional = false; at_init = false; start = Some start; line = 0 }

-- an assignment
abbrev pub set_of : ℕ → Rule → SetRow
set_of field rule = record { field = field; rule = rule }

-- a phase over so many fields that assigns, and checks ranges
abbrev pub phase_of : ℕ → List SetRow → List RangeRow → Phase
phase_of count sets ranges = record {
  label = [];
  sets = sets;
  merges = [];
  adds = [];
  averages = [];
  ranges = ranges;
  halo = halo_of count (map (λ row. row.rule) sets);
}

-- a phase that merges and keeps, and one that averages
abbrev pub keeping_phase : ℕ → List MergeRow → List SetRow → Phase
keeping_phase count merges adds = record {
  label = [];
  sets = [];
  merges = merges;
  adds = adds;
  averages = [];
  ranges = [];
  halo = halo_of count (map (λ row. row.rule) adds);
}

abbrev pub mean_phase : ℕ → List ℕ → Phase
mean_phase count averages = record {
  label = [];
  sets = [];
  merges = [];
  adds = [];
  averages = averages;
  ranges = [];
  halo = halo_of count [];
}

-- a component on PETs from a first one on, whose grid is cut into blocks
abbrev pub comp_of : Kind → Grid → (first px py : ℕ) → Option ℤ → List Field → List Phase → Comp
comp_of kind grid first px py substep fields phases = record {
  name = [];
  kind = kind;
  first_pet = first;
  pets = px * py;
  decomp = record { grid = grid; px = px; py = py; first_pet = first };
  substep = substep;
  fields = fields;
  phases = phases;
  start_halo = halo_of (length fields) (start_rules fields);
}

-- a grid whose columns end at edges
abbrev pub flat_grid : ℕ → ℕ → Grid
flat_grid nx ny = record { nx = nx; ny = ny; periodic = false }

-- ---- operations

-- a run of a phase that is the whole of its step
abbrev pub run_at : (component phase time step : ℕ) → Op
run_at component phase time step = Run component phase (pos time) (pos step) (pos time) (pos step) true true

-- the operations of each step from one on, for so many steps of a second
abbrev pub each_second : ℕ → ℕ → (ℕ → List Op) → List Op
each_second from count ops = flat_map ops (range_with_len from count)

-- ---- ends

-- a field that is the same everywhere on so many cells, in millionths
abbrev pub same_end : Option ℤ → ℕ → ℤ → FieldEnd
same_end stamp cells value = record { stamp = stamp; low = value; high = value; sum = sum_of (map (λ k. value) (range_with_len 0 cells)) }

-- a field by its least and greatest value and its sum, in units
abbrev pub field_range : Option ℤ → (low high sum : ℕ) → FieldEnd
field_range stamp low high sum = record { stamp = stamp; low = units low; high = units high; sum = units sum }

-- a component at the end
abbrev pub end_of : (runs clock : ℕ) → List FieldEnd → CompEnd
end_of runs clock fields = record { runs = runs; clock = pos clock; fields = fields }

-- a run without a fault, and one with a fault, without a trace
abbrev pub ended : ℕ → List CompEnd → Outcome
ended done comps = record { done = done; comps = comps; fault = None; trace = [] }

abbrev pub stopped : (op component place : ℕ) → FoundKind → List ℕ → Outcome
stopped op component place kind runs = record {
  done = op;
  comps = map (λ n. end_of n 0 []) runs;
  fault = Some (record { code = op * op_factor + place; component = component; kind = kind });
  trace = [];
}

-- ---- systems

-- parts on so many PETs that start with the year 2000, without alarms
abbrev pub parts_with : List Comp → Sequence → List Pair → List ℕ → List (Option Table) → ℕ → SystemParts
parts_with comps sequence pairs init weights pets = record {
  comps = comps;
  seq = sequence;
  pairs = pairs;
  init = init;
  weights = weights;
  cal = NoLeap;
  start = pos 63072000000;
  alarms = [];
  pets = pets;
}

-- a connector's line
abbrev pub line_of : Method → ℕ → ℕ → LinkLine
line_of method src dst = record { src = src; dst = dst; method = method; file = []; terms = pos 0; line = 0 }

-- one loop of steps of a second, with the first phase of each of these components
abbrev pub one_loop : List LinkLine → ℕ → List Element → Sequence
one_loop links seconds body = record {
  links = links;
  loops = record { begin = 0; step = 1; duration = seconds; body = body } ∷ [];
  span = pos seconds;
}

-- a connector and the first phase of a component, as elements of a loop
abbrev pub link_element : ℕ → Element
link_element k = roll-Element (element.Link k)

abbrev pub run_element : ℕ → Element
run_element component = roll-Element (element.Run component 0 None)

-- one model alone
abbrev pub alone : Comp → Coupling
alone comp = coupling_of (parts_with (comp ∷ []) (one_loop [] 3 (run_element 0 ∷ [])) [] (0 ∷ []) [] 1)

-- ---- one model

-- a model on a grid with one variable, by its start rule and its phase
abbrev pub one_var : Grid → Option ℤ → Rule → Rule → List RangeRow → Coupling
one_var grid substep start rule ranges =
    alone (comp_of Model grid 0 1 1 substep (var_of start ∷ []) (phase_of 1 (set_of 0 rule ∷ []) ranges ∷ []))

-- an initialisation, and so many steps of a second
abbrev pub steps_of : ℕ → List Op
steps_of count = Init 0 ∷ each_second 0 count (λ t. run_at 0 0 t 1 ∷ [])

-- two operations of two steps of two seconds
abbrev pub half_steps : List Op
half_steps =
    Init 0
    ∷ Run 0 0 (pos 0) (pos 2) (pos 0) (pos 1) true false ∷ Run 0 0 (pos 0) (pos 2) (pos 1) (pos 1) false true
    ∷ Run 0 0 (pos 2) (pos 2) (pos 2) (pos 1) true false ∷ Run 0 0 (pos 2) (pos 2) (pos 3) (pos 1) false true ∷ []

-- one more at each step
abbrev pub counting : Rule
counting = sum_rule (here 0 ∷ Number (units 1) ∷ [])

-- the same as a formula
abbrev pub plus_one : Rule
plus_one = Plain (record {
  tree = roll-Formula (tree.Plus (roll-Formula (tree.Input 0)) (roll-Formula (tree.Number (units 1))));
  reads = read_at (names.Field 0) (pos 0) (pos 0) ∷ [];
})

-- values from 0 to ten units
abbrev pub to_ten : List RangeRow
to_ten = record { field = 0; low = pos 0; high = units 10 } ∷ []

-- one cell
abbrev pub one_cell : Grid
one_cell = flat_grid 1 1

-- Runs of one model.
pub record ModelExamples : Type 0 where
  -- three steps, each by one
  pub counts : outcome_of (one_var (flat_grid 1 1) None (units_rule 0) counting []) entries (steps_of 3) false
      ≡ ended 4 (end_of 3 3 (same_end None 1 (units 3) ∷ []) ∷ [])
  -- the clock stands at the end of the step when the phase runs again at its beginning
  pub clock : outcome_of (one_var (flat_grid 1 1) None (units_rule 0) counting []) entries (Init 0 ∷ run_at 0 0 0 1 ∷ run_at 0 0 0 1 ∷ []) false
      ≡ stopped 2 0 0 (kinds.Clock (pos 1) (pos 0)) (1 ∷ [])
  -- a step of two operations is one run, which the second ends; each operation assigns
  pub substeps : outcome_of (one_var (flat_grid 1 1) (Some (pos 1)) (units_rule 0) counting []) entries half_steps false
      ≡ ended 5 (end_of 2 4 (same_end None 1 (units 4) ∷ []) ∷ [])
  -- all cells read what their neighbours were: of 1, 2, 3 on a ring each becomes twice its right neighbour
  pub neighbours : outcome_of (one_var (record { nx = 3; ny = 1; periodic = true }) None (sum_rule (cell_number ∷ [])) (sum_rule (beside 0 (pos 1) ∷ beside 0 (negsuc 1) ∷ [])) [])
      entries (steps_of 1) false
      ≡ ended 2 (end_of 1 1 (field_range None 2 6 12 ∷ []) ∷ [])
  -- a native entry: 5, 7.5, 8.75
  pub relaxed : outcome_of (one_var (flat_grid 1 1) None (units_rule 0) (Native 1 (here 0 ∷ Number (units 10) ∷ Number (pos 500000) ∷ [])) []) entries (steps_of 3) false
      ≡ ended 4 (end_of 3 3 (same_end None 1 (pos 8750000) ∷ []) ∷ [])
  -- the greatest value
  pub clipped : outcome_of (one_var (flat_grid 1 1) None (units_rule 100000) (Native 2 (here 0 ∷ here 0 ∷ [])) []) entries (steps_of 1) false
      ≡ ended 2 (end_of 1 1 (same_end None 1 (units 1000000000) ∷ []) ∷ [])
  -- a negative half goes up: minus a millionth, halved, is 0, and stays minus a millionth with what it was
  pub halved : outcome_of (one_var one_cell None (sum_rule (Number (negsuc 0) ∷ [])) (Native 4 (here 0 ∷ [])) []) entries (steps_of 1) false
      ≡ ended 2 (end_of 1 1 (same_end None 1 (negsuc 0) ∷ []) ∷ [])
  -- 9, 10, 0 and 10 become 10, 11, 1 and 11, and 11 is too much: cell 2 has the first fault, in the first step; cell 1 is over in the second
  pub range : outcome_of (one_var (flat_grid 4 1) None (Native 5 (cell_number ∷ [])) counting to_ten) entries (steps_of 2) false
      ≡ stopped 1 0 (129 + 8) (kinds.Range 0 2 (units 11) (pos 0) (units 10)) (0 ∷ [])
  -- a formula, beside the native entry above
  pub formula : outcome_of (one_var one_cell None (units_rule 0) plus_one []) entries (steps_of 1) false
      ≡ ended 2 (end_of 1 1 (same_end None 1 (units 1) ∷ []) ∷ [])

-- ---- two models

-- one that counts by an export, and one that adds up what it imports, whose stamp is checked so
abbrev pub source : Grid → Rule → Rule → Comp
source grid start rule = comp_of Model grid 0 1 1 None (export_of start ∷ []) (phase_of 1 (set_of 0 rule ∷ []) [] ∷ [])

abbrev pub summing : Wanted → Comp
summing wanted =
    comp_of Model (flat_grid 1 1) 0 1 1 None (var_of (units_rule 0) ∷ import_of wanted false ∷ [])
    (phase_of 2 (set_of 0 (sum_rule (here 0 ∷ here 1 ∷ [])) ∷ []) [] ∷ [])

-- the pair of the two
abbrev pub only_pair : Pair
only_pair = record { src = 0; src_field = 0; dst = 1; dst_field = 1 }

-- the two, with a loop of three steps in which the connector, the first and the second run
abbrev pub two_of : Comp → Wanted → Method → Option Table → Coupling
two_of first wanted method weights =
    coupling_of (parts_with (first ∷ summing wanted ∷ [])
    (one_loop (line_of method 0 1 ∷ []) 3 (link_element 0 ∷ run_element 0 ∷ run_element 1 ∷ []))
    (only_pair ∷ []) (0 ∷ 1 ∷ []) (weights ∷ []) 1)

-- by equal index, from one cell to one
abbrev pub counted : Wanted → Coupling
counted wanted = two_of (source (flat_grid 1 1) (units_rule 0) counting) wanted Redist None

-- by equal index, from five cells on PETs 0 to 2 to five on PETs 1 and 2
abbrev pub spread_counting : Coupling
spread_counting =
    coupling_of (parts_with
    (comp_of Model (flat_grid 5 1) 0 3 1 None (export_of (units_rule 0) ∷ []) (phase_of 1 (set_of 0 counting ∷ []) [] ∷ [])
    ∷ comp_of Model (flat_grid 5 1) 1 2 1 None (var_of (units_rule 0) ∷ import_of Current false ∷ [])
    (phase_of 2 (set_of 0 (sum_rule (here 0 ∷ here 1 ∷ [])) ∷ []) [] ∷ []) ∷ [])
    (one_loop (line_of Redist 0 1 ∷ []) 3 (link_element 0 ∷ run_element 0 ∷ run_element 1 ∷ []))
    (only_pair ∷ []) (0 ∷ 1 ∷ []) (None ∷ []) 3)

-- three cells of a millionth, each of which counts a third
abbrev pub thirds : Table
thirds = record { src_cells = 3; records = 3; rows = ((1, pos 333333333) ∷ (2, pos 333333333) ∷ (3, pos 333333333) ∷ []) ∷ [] }

-- by weights, from three cells to one
abbrev pub weighted : Coupling
weighted = two_of (source (flat_grid 3 1) (sum_rule (Number (pos 1) ∷ [])) (sum_rule (here 0 ∷ []))) Current Weights (Some thirds)

-- three steps in which the connector runs first
abbrev pub link_first : List Op
link_first = Init 0 ∷ Init 1 ∷ each_second 0 3 (λ t. Link 0 false ∷ run_at 0 0 t 1 ∷ run_at 1 0 t 1 ∷ [])

-- three steps in which it runs between the two
abbrev pub link_between : List Op
link_between = Init 0 ∷ Init 1 ∷ each_second 0 3 (λ t. run_at 0 0 t 1 ∷ Link 0 false ∷ run_at 1 0 t 1 ∷ [])

-- the row of the first model's export at a step
abbrev pub export_row : (op stamp : ℕ) → TraceRow
export_row op stamp = record { op = op; component = 0; phase = 0; field = 0; stamp = pos stamp; sum = units stamp }

-- Runs of two models.
pub record LinkExamples : Type 0 where
  pub operations : ops_of (counted Current) ≡ link_first
  -- the import of a step is the export of the step before, and its stamp the time of the step
  pub lagged : outcome_of (counted Current) entries link_first false
      ≡ ended 11 (end_of 3 3 (same_end (Some (pos 3)) 1 (units 3) ∷ []) ∷ end_of 3 3 (same_end None 1 (units 3) ∷ same_end (Some (pos 2)) 1 (units 2) ∷ []) ∷ [])
  -- where it is that of the same step, its stamp is the end of the step
  pub too_new : outcome_of (counted Current) entries link_between false ≡ stopped 4 1 1 (kinds.Import 1 (Some (pos 1)) (pos 0)) (1 ∷ 0 ∷ [])
  pub next : outcome_of (counted Next) entries link_between false
      ≡ ended 11 (end_of 3 3 (same_end (Some (pos 3)) 1 (units 3) ∷ []) ∷ end_of 3 3 (same_end None 1 (units 6) ∷ same_end (Some (pos 3)) 1 (units 3) ∷ []) ∷ [])
  -- without a connector before it the import has no stamp
  pub unstamped : outcome_of (counted Current) entries (Init 0 ∷ Init 1 ∷ run_at 1 0 0 1 ∷ []) false ≡ stopped 2 1 1 (kinds.Import 1 None (pos 0)) (0 ∷ 0 ∷ [])
  -- the trace has a row for each run of the first, and stops before the operation of a fault
  pub traced : (outcome_of (counted Current) entries link_first true).trace ≡ export_row 3 1 ∷ export_row 6 2 ∷ export_row 9 3 ∷ []
  pub traced_to_fault : (outcome_of (counted Current) entries link_between true).trace ≡ export_row 2 1 ∷ []
  -- five cells of two models on other PETs: as one cell, five times
  pub five_cells : outcome_of spread_counting entries link_first false
      ≡ ended 11 (end_of 3 3 (same_end (Some (pos 3)) 5 (units 3) ∷ []) ∷ end_of 3 3 (same_end None 5 (units 3) ∷ same_end (Some (pos 2)) 5 (units 2) ∷ []) ∷ [])
  -- three thirds of a millionth, rounded once
  pub thirds_sum : outcome_of weighted entries link_first false
      ≡ ended 11 (end_of 3 3 (record { stamp = Some (pos 3); low = pos 1; high = pos 1; sum = pos 3 } ∷ []) ∷ end_of 3 3 (same_end None 1 (pos 3) ∷ same_end (Some (pos 2)) 1 (pos 1) ∷ []) ∷ [])

-- The serial run: what each operation makes of the world, what it finds amiss, and what the whole comes to.
use Rattle.std.specs.Prelude.{ℕ, ◌+◌, ◌*◌, ◌/◌, ◌^◌, ℤ, pos, ◌+ℤ◌, Bool, true, false, nat_lt, if◌then◌else◌, List, [], ◌∷◌, ◌++◌, filter, fold, length, map, take, slice_get, Option, Some, None, unwrap_or}
use Rattle.std.specs.Int.{int_max, int_min}
use Rattle.std.specs.List.{enumerate_from}
use Rattle.std.specs.Option.{option_map_or}
use Rattle.cpl_comp.specs.Readings.{EntryAnswers}
use Rattle.cpl_comp.specs.RunFaults.{Fault, lesser, run_faults}
use Rattle.cpl_comp.specs.Turns.{Turn, comp_after_init, comp_after_run, fields_after_run, places_of}
use Rattle.cpl_comp.specs.Worlds.{CompWorld, FieldWorld, active_cells, cell_value, changed, field_at, first_comp}
use Rattle.cpl_comp.specs.declared.component.Comp.{Comp}
use Rattle.cpl_comp.specs.declared.component.Phase.{Phase}
use Rattle.cpl_comp.specs.declared.component.Role.TheVariants.{Export}
use Rattle.cpl_grid.specs.Owners.{Layout}
use Rattle.cpl_sequence.specs.declared.op.Op.{Op}
use Rattle.cpl_sequence.specs.declared.op.Op.TheVariants.{Init, Link, Run}
use Rattle.cpl_trace.specs.declared.row.TraceRow.{TraceRow}
use Rattle.cpl_script.specs.Couplings.{Coupling, is_connected}
use Rattle.cpl_script.specs.Operations.{ops_of}
use Rattle.cpl_script.specs.Transfers.{World, comp_at, world_after_link}
use Rattle.cpl_script.specs.declared.outcome.CompEnd.{CompEnd}
use Rattle.cpl_script.specs.declared.outcome.FieldEnd.{FieldEnd}
use Rattle.cpl_script.specs.declared.outcome.Found.{Found}
use Rattle.cpl_script.specs.declared.outcome.Outcome.{Outcome}

-- ---- the world

-- the world at the start
abbrev pub first_world : Coupling → World
first_world coupling = map first_comp coupling.comps

-- the world after the initialisation of a component
abbrev pub world_after_init : Coupling → EntryAnswers → World → ℕ → World
world_after_init coupling entries world component =
    option_map_or (λ comp. changed (comp_after_init coupling.timing entries comp) component world) (slice_get coupling.comps component) world

-- the world after an operation of a phase
abbrev pub world_after_run : Coupling → EntryAnswers → World → (component phase : ℕ) → Turn → World
world_after_run coupling entries world component phase turn =
    option_map_or
    (λ comp. option_map_or (λ p. changed (comp_after_run coupling.timing entries comp p turn) component world) (slice_get comp.phases phase) world)
    (slice_get coupling.comps component) world

-- the world after an operation
abbrev pub world_after : Coupling → EntryAnswers → World → Op → World
world_after coupling entries world (Init component) = world_after_init coupling entries world component
world_after coupling entries world (Link link at_init) =
    option_map_or (λ line. world_after_link coupling.comps line at_init world) (slice_get coupling.links link) world
world_after coupling entries world (Run component phase time step at substep first last) =
    world_after_run coupling entries world component phase
    (record { time = time; step = step; at = at; substep = substep; first = first; last = last })

-- the world after operations from the start on
unfoldable pub world_of : Coupling → EntryAnswers → List Op → World
world_of coupling entries ops = fold (world_after coupling entries) (first_world coupling) ops

-- the world before the operation of a number; behind the last, the world at the end
abbrev pub world_before : Coupling → EntryAnswers → ℕ → World
world_before coupling entries k = world_of coupling entries (take k (ops_of coupling))

-- ---- faults

-- the factor of an operation in the number of a fault
abbrev pub op_factor : ℕ
op_factor = 2 ^ 24

-- a fault of a component in the operation of a number
abbrev pub found_in : (op component : ℕ) → Fault → Found
found_in op component fault = record { code = op * op_factor + fault.place; component = component; kind = fault.kind }

-- what an operation of a phase finds amiss in a world
abbrev pub phase_faults : Coupling → EntryAnswers → World → (component phase : ℕ) → Turn → List Fault
phase_faults coupling entries world component phase turn =
    option_map_or
    (λ comp. option_map_or
    (λ p. run_faults comp p turn (is_connected coupling component) (comp_at world component)
    (fields_after_run coupling.timing entries comp p turn (comp_at world component).fields))
    (slice_get comp.phases phase) [])
    (slice_get coupling.comps component) []

-- what the operation of a number finds amiss in a world, in rising numbers: runs alone check anything
abbrev pub found_by : Coupling → EntryAnswers → World → ℕ → Op → List Found
found_by coupling entries world k (Init component) = []
found_by coupling entries world k (Link link at_init) = []
found_by coupling entries world k (Run component phase time step at substep first last) =
    map (found_in k component) (phase_faults coupling entries world component phase
    (record { time = time; step = step; at = at; substep = substep; first = first; last = last }))

-- ---- the ends of fields

-- the values of the cells that take part
abbrev pub active_values : Layout → List ℤ → List ℤ
active_values layout values = map (cell_value values) (active_cells layout)

-- the sum of numbers
abbrev pub sum_of : List ℤ → ℤ
sum_of [] = pos 0
sum_of (x ∷ xs) = x +ℤ sum_of xs

-- the least of numbers, 0 where there are none
abbrev pub least_of : List ℤ → ℤ
least_of [] = pos 0
least_of (x ∷ xs) = fold int_min x xs

-- the greatest of numbers, 0 where there are none
abbrev pub greatest_of : List ℤ → ℤ
greatest_of [] = pos 0
greatest_of (x ∷ xs) = fold int_max x xs

-- a field at the end of a run
abbrev pub field_end : Layout → FieldWorld → FieldEnd
field_end layout field = record {
  stamp = field.stamp;
  low = least_of (active_values layout field.values);
  high = greatest_of (active_values layout field.values);
  sum = sum_of (active_values layout field.values);
}

-- a component at the end of a run
abbrev pub comp_end : World → ℕ × Comp → CompEnd
comp_end world numbered =
    let comp = comp_at world numbered.0 in
    record { runs = comp.runs; clock = comp.clock; fields = map (field_end numbered.1.decomp) comp.fields }

-- a component of a run with a fault: how many of its runs had ended
abbrev pub comp_stop : CompWorld → CompEnd
comp_stop comp = record { runs = comp.runs; clock = pos 0; fields = [] }

-- ---- the trace

-- the row of an export, once the operation of a number has ended
abbrev pub trace_row : (op component phase : ℕ) → Layout → List FieldWorld → ℕ → TraceRow
trace_row op component phase layout fields k = record {
  op = op;
  component = component;
  phase = phase;
  field = k;
  stamp = unwrap_or (field_at fields k).stamp (pos 0);
  sum = sum_of (active_values layout (field_at fields k).values);
}

-- the rows of a phase's operation that ends a step: one for each export of its component
abbrev pub phase_rows : Coupling → World → (op component phase : ℕ) → List TraceRow
phase_rows coupling world op component phase =
    option_map_or
    (λ comp. map (trace_row op component phase comp.decomp (comp_at world component).fields) (places_of Export comp.fields))
    (slice_get coupling.comps component) []

-- the rows of the operation of a number, given the world after it
abbrev pub rows_of : Coupling → World → ℕ → Op → List TraceRow
rows_of coupling world k (Init component) = []
rows_of coupling world k (Link link at_init) = []
rows_of coupling world k (Run component phase time step at substep first last) =
    if last then phase_rows coupling world k component phase else []

-- ---- the whole

-- How far a run has come: the world, the least fault so far, and the rows of the trace.
pub record Total : Type 0 where
  pub world : World
  pub found : Option Found
  pub rows : List TraceRow

-- a run before its first operation
abbrev pub first_total : Coupling → Total
first_total coupling = record { world = first_world coupling; found = None; rows = [] }

-- a run with one operation more, which has a number; it goes on behind faults
abbrev pub total_after : Coupling → EntryAnswers → Total → ℕ × Op → Total
total_after coupling entries total numbered =
    let world = world_after coupling entries total.world numbered.1 in
    record {
      world = world;
      found = fold (lesser (λ f. f.code)) total.found (found_by coupling entries total.world numbered.0 numbered.1);
      rows = total.rows ++ rows_of coupling world numbered.0 numbered.1;
    }

-- a run of operations, which are numbered from 0
unfoldable pub total_of : Coupling → EntryAnswers → List Op → Total
total_of coupling entries ops = fold (total_after coupling entries) (first_total coupling) (enumerate_from 0 ops)

-- a run of all operations
abbrev pub total_run : Coupling → EntryAnswers → Total
total_run coupling entries = total_of coupling entries (ops_of coupling)

-- the rows of a trace, where one is asked for
abbrev pub asked_rows : Bool → List TraceRow → List TraceRow
asked_rows true rows = rows
asked_rows false rows = []

-- the operation of a fault
abbrev pub op_of : Found → ℕ
op_of found = found.code / op_factor

-- the outcome of a run without a fault: the ends of all components
abbrev pub end_outcome : Coupling → List Op → Bool → Total → Outcome
end_outcome coupling ops trace total = record {
  done = length ops;
  comps = map (comp_end total.world) (enumerate_from 0 coupling.comps);
  fault = None;
  trace = asked_rows trace total.rows;
}

-- the outcome of a run whose least fault this is: what had ended before the operation of that fault
abbrev pub fault_outcome : Coupling → EntryAnswers → List Op → Bool → List TraceRow → Found → Outcome
fault_outcome coupling entries ops trace rows found = record {
  done = op_of found;
  comps = map comp_stop (world_of coupling entries (take (op_of found) ops));
  fault = Some found;
  trace = asked_rows trace (filter (λ row. nat_lt row.op (op_of found)) rows);
}

-- the outcome of a run of operations that came to this
abbrev pub outcome_at : Coupling → EntryAnswers → List Op → Bool → Total → Outcome
outcome_at coupling entries ops trace total =
    option_map_or (fault_outcome coupling entries ops trace total.rows) total.found (end_outcome coupling ops trace total)

-- the outcome of a run of operations, with a trace or without
abbrev pub outcome_of : Coupling → EntryAnswers → List Op → Bool → Outcome
outcome_of coupling entries ops trace = outcome_at coupling entries ops trace (total_of coupling entries ops)

-- the outcome of the serial run of a system: of all its operations, one after another
abbrev pub serial_outcome : Coupling → EntryAnswers → Bool → Outcome
serial_outcome coupling entries trace = outcome_of coupling entries (ops_of coupling) trace

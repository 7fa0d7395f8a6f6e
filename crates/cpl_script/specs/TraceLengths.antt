-- How many rows the trace of a run without a fault has.
use Rattle.std.specs.Prelude.{ℕ, List, length, map}
use Rattle.cpl_comp.specs.Turns.{places_of}
use Rattle.cpl_comp.specs.declared.component.Comp.{Comp}
use Rattle.cpl_comp.specs.declared.component.Role.TheVariants.{Export}
use Rattle.cpl_sequence.specs.RunEnds.{end_total}
use Rattle.cpl_script.specs.Couplings.{Coupling}
use Rattle.cpl_script.specs.Operations.{ops_of}

-- how many exports each component has
abbrev pub export_counts : List Comp → List ℕ
export_counts comps = map (λ comp. length (places_of Export comp.fields)) comps

-- a row for each export of a component at the end of each of its runs
abbrev pub trace_length : Coupling → ℕ
trace_length coupling = end_total (export_counts coupling.comps) (ops_of coupling)

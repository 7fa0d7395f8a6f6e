-- The least of the faults of an operation.
use Rattle.std.specs.Prelude.{List, fold, Option}
use Rattle.std.specs.Option.{option_map}
use Rattle.cpl_comp.specs.RunFaults.{Fault, lesser}
use Rattle.cpl_marks.specs.declared.fault.PhaseFault.{PhaseFault}

-- the fault that a noted one is
abbrev pub fault_of : PhaseFault → Fault
fault_of noted = record { place = noted.place; kind = noted.kind }

-- that of what is noted, if anything is
abbrev pub noted_fault : Option PhaseFault → Option Fault
noted_fault found = option_map fault_of found

-- the least of a fault, if there is one, and others
abbrev pub least_fault : Option Fault → List Fault → Option Fault
least_fault found faults = fold (lesser (λ fault. fault.place)) found faults

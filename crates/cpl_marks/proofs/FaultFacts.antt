-- The least of faults, one list after another.
use Rattle.std.proofs.Common.{◌≡◌, List, ◌++◌, Option}
use Rattle.std.proofs.lemmas.List.Sums.{fold-append}
use Rattle.cpl_comp.specs.RunFaults.{Fault, lesser}
use Rattle.cpl_marks.specs.Faults.{least_fault}

-- the least of two lists of faults
pub least_fault-append : (found : Option Fault) (xs ys : List Fault) → least_fault found (xs ++ ys) ≡ least_fault (least_fault found xs) ys
least_fault-append found xs ys = fold-append (lesser (λ (fault : Fault). fault.place)) found xs ys

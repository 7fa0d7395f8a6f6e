-- The numbers of faults: those of one operation stand apart from those of all others.
use Rattle.std.specs.Prelude.{ℕ, ◌+◌, ◌*◌, ◌<◌, ◌≤◌, List, Some, slice_get, ◌≡◌}
use Rattle.std.specs.List.{All}
use Rattle.cpl_comp.specs.Readings.{EntryAnswers}
use Rattle.cpl_comp.specs.RunFaults.{Fault}
use Rattle.cpl_sequence.specs.declared.op.Op.{Op}
use Rattle.cpl_script.specs.Couplings.{Coupling}
use Rattle.cpl_script.specs.SerialRun.{found_by, op_factor}
use Rattle.cpl_script.specs.Transfers.{World}
use Rattle.cpl_script.specs.declared.outcome.Found.{Found}

-- the place of a fault is below the factor of an operation
abbrev pub IsPlaced : Fault → Type 0
IsPlaced fault = fault.place < op_factor

-- A fault whose number lies within the operation of a number.
pub record IsFoundBy (k : ℕ) (found : Found) : Type 0 where
  pub from : k * op_factor ≤ found.code
  pub below : found.code < (k + 1) * op_factor

-- whatever the world is, each operation finds faults within it alone
abbrev pub AreNumbered : Coupling → EntryAnswers → List Op → Type 0
AreNumbered coupling entries ops =
    (k : ℕ) (op : Op) → slice_get ops k ≡ Some op → (world : World) → All (IsFoundBy k) (found_by coupling entries world k op)

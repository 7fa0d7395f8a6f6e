use Rattle.std.proofs.Common.{◌≡◌, ◌≢◌, ℕ, Some, length, map, slice_get, take}
use Rattle.cpl_phase.specs.declared.local.LocalComp.{LocalComp}
use Rattle.cpl_script.specs.SerialRun.{comp_stop}
use Rattle.cpl_script.specs.Transfers.{World, comp_at}
use Rattle.cpl_serial.proofs.ending.stops_of.Given as goal

-- the components passed
abbrev pub invariant-loop-c : goal.invariant-loop-c
invariant-loop-c l = (world : World) → length world ≡ length l.locals → (comp_at world l.component).runs ≡ l.runs
    → ((c : ℕ) (local : LocalComp) → c ≢ l.component → slice_get l.locals c ≡ Some local → (comp_at world c).runs ≡ local.marks.runs)
    → l.stops.items ≡ map comp_stop (take l.c world)

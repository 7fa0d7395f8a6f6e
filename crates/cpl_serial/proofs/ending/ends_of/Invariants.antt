use Rattle.std.proofs.Common.{◌≡◌, map, take}
use Rattle.std.specs.List.{enumerate_from}
use Rattle.cpl_script.specs.SerialRun.{comp_end}
use Rattle.cpl_script.specs.Transfers.{World}
use Rattle.cpl_serial.specs.Engines.{StandForWorld}
use Rattle.cpl_serial.proofs.ending.ends_of.Given as goal

-- the ends of the components passed
abbrev pub invariant-loop-c : goal.invariant-loop-c
invariant-loop-c l = (world : World) → StandForWorld l.system world l.locals
    → l.ends.items ≡ map (comp_end world) (enumerate_from 0 (take l.c l.system.comps))

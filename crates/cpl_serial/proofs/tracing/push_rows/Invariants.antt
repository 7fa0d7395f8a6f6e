use Rattle.std.proofs.Common.{◌≡◌, ◌++◌, map, take}
use Rattle.cpl_comp.specs.Worlds.{CompWorld}
use Rattle.cpl_phase.specs.Locals.{StandsForComp}
use Rattle.cpl_script.specs.SerialRun.{trace_row}
use Rattle.cpl_serial.proofs.tracing.push_rows.Given as goal

-- the rows of the exports passed
abbrev pub invariant-loop-j : goal.invariant-loop-j
invariant-loop-j l = (world : CompWorld) → StandsForComp l.comp world l.local
    → l.rows.items ≡ l.initial.rows.items ++ map (trace_row l.op l.component l.phase l.comp.decomp world.fields) (take l.j l.exports)

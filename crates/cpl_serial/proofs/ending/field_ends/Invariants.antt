use Rattle.std.proofs.Common.{◌≡◌, map, take}
use Rattle.cpl_comp.specs.Worlds.{CompWorld}
use Rattle.cpl_phase.specs.Locals.{StandsForComp}
use Rattle.cpl_script.specs.SerialRun.{field_end}
use Rattle.cpl_serial.proofs.ending.field_ends.Given as goal

-- the ends of the fields passed
abbrev pub invariant-loop-k : goal.invariant-loop-k
invariant-loop-k l = (world : CompWorld) → StandsForComp l.comp world l.local → l.ends.items ≡ map (field_end l.comp.decomp) (take l.k world.fields)

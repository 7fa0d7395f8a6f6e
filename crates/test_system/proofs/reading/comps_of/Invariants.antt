use Rattle.std.proofs.Common.{[]}
use Rattle.std.specs.List.{All}
use Rattle.cpl_comp.specs.Components.{IsComponent}
use Rattle.test_system.proofs.reading.comps_of.Given as goal

-- the components so far are sound
abbrev pub invariant-loop-name : goal.invariant-loop-name
invariant-loop-name l = All (IsComponent (record { pets = l.pets; alarms = 0; inputs = [] })) l.comps.items

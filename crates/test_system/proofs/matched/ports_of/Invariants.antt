use Rattle.std.proofs.Common.{◌≡◌, take}
use Rattle.std.specs.List.{enumerate_from, flat_map}
use Rattle.cpl_script.specs.Matched.{comp_ports}
use Rattle.test_system.proofs.matched.ports_of.Given as goal

-- the ports of the components so far
abbrev pub invariant-loop-place : goal.invariant-loop-place
invariant-loop-place l = l.ports.items ≡ flat_map comp_ports (take l.place (enumerate_from 0 l.comps))

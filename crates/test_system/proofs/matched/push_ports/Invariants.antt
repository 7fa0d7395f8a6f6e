use Rattle.std.proofs.Common.{◌≡◌, ◌++◌, take}
use Rattle.std.specs.List.{enumerate_from, filter_map}
use Rattle.cpl_script.specs.Matched.{port_of}
use Rattle.test_system.proofs.matched.push_ports.Given as goal

-- the ports of the fields so far stand behind those before
abbrev pub invariant-loop-place : goal.invariant-loop-place
invariant-loop-place l = l.ports.items ≡ l.initial.ports.items ++ filter_map (port_of l.component) (take l.place (enumerate_from 0 l.fields))

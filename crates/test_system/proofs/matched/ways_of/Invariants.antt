use Rattle.std.proofs.Common.{◌≡◌, map, take}
use Rattle.cpl_script.specs.Matched.{way_of}
use Rattle.test_system.proofs.matched.ways_of.Given as goal

-- the ways of the lines so far
abbrev pub invariant-loop-line : goal.invariant-loop-line
invariant-loop-line l = l.ways.items ≡ map way_of (take l.line-index l.lines)

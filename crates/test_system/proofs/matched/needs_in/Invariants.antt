use Rattle.std.proofs.Common.{◌≡◌, take}
use Rattle.cpl_script.specs.Operations.{needs_in}
use Rattle.test_system.proofs.matched.needs_in.Given as goal

-- those of the pairs so far
abbrev pub invariant-loop-pair : goal.invariant-loop-pair
invariant-loop-pair l = l.needs.items ≡ needs_in l.comps (take l.pair-index l.pairs)

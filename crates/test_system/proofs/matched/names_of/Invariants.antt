use Rattle.std.proofs.Common.{◌≡◌, take}
use Rattle.cpl_script.specs.Matched.{names_of}
use Rattle.test_system.proofs.matched.names_of.Given as goal

-- those of the components so far
abbrev pub invariant-loop-comp : goal.invariant-loop-comp
invariant-loop-comp l = l.names.items ≡ names_of (take l.comp-index l.comps)

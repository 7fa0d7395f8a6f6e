use Rattle.std.proofs.Common.{◌≡◌, map, take}
use Rattle.cpl_build.specs.Refusals.{name_at}
use Rattle.cpl_build.proofs.refusals.names_at.Given as goal

-- those of the numbers so far
abbrev pub invariant-loop-number : goal.invariant-loop-number
invariant-loop-number l = l.words.items ≡ map (name_at l.comps) (take l.number-index l.numbers)

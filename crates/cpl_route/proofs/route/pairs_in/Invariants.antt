use Rattle.std.proofs.Common.{◌≡◌, take}
use Rattle.cpl_route.specs.Tables.{pairs_of}
use Rattle.cpl_route.proofs.route.pairs_in.Given as goal

abbrev pub invariant-loop-span : goal.invariant-loop-span
invariant-loop-span l = l.pairs.items ≡ pairs_of (take l.span-index l.spans)

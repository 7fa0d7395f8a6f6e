use Rattle.cpl_route.specs.Walks.{HasCopied}
use Rattle.cpl_route.proofs.walk.copy_down.Given as goal

abbrev pub invariant-loop-k : goal.invariant-loop-k
invariant-loop-k l = HasCopied l.nx l.from l.fn.more l.k l.initial.out.items l.out.items

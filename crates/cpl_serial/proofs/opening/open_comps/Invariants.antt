use Rattle.cpl_serial.specs.Opened.{AreOpenedTo}
use Rattle.cpl_serial.proofs.opening.open_comps.Given as goal

-- the components passed are made
abbrev pub invariant-loop-c : goal.invariant-loop-c
invariant-loop-c l = AreOpenedTo l.c l.system l.locals.items

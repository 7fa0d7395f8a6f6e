use Rattle.cpl_entry.proofs.SigningFacts.{IsSigned}
use Rattle.cpl_entry.proofs.signing.labels_of.Given as goal

-- no label so far stood before, and the table has just those
abbrev pub invariant-loop-index : goal.invariant-loop-index
invariant-loop-index l = IsSigned l.signs l.index l.labels

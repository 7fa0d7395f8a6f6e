use Rattle.std.proofs.Common.{◌∙◌, ap}
use Rattle.cpl_sequence.proofs.MarkFacts.{marks_of_tops-count}
use Rattle.cpl_sequence.proofs.seq.Seq.op_count.Goals as goal

pub returns-clause-value : goal.returns-clause-value
returns-clause-value c = rw (← c.self.view_is) (ap (λ kept. kept.count) c.self.invariant.marks_are ∙ marks_of_tops-count c.self.inside.loops.items)

use Rattle.std.proofs.Common.{◌+◌, ◌∙◌}
use Rattle.cpl_match.proofs.MarkFacts.{shares_call-bond}
use Rattle.cpl_match.proofs.marks.Marks.mark.Goals as goal

pub returns-clause-marked : goal.returns-clause-marked
returns-clause-marked c = record {
  own = c.note_ports.ensures.count ∙ c.clear.ensures.count ∙ c.requires.own;
  shared = c.note_calls.ensures.count ∙ c.clear-2.ensures.count ∙ c.requires.shared;
  marked = λ name bit number inside few is.
      c.note_calls.ensures.noted name bit
      ∙ shares_call-bond c.args.dict.now c.as_slice.result.now c.args.numbers.now c.args.first name bit number c.number_laws.ensures
      (λ other. rw c.as_slice.ensures.value (c.note_ports.ensures.noted other bit few)) inside (c.requires.numbers (c.args.first + bit) number is) is;
}

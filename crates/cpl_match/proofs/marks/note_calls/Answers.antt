use Rattle.std.proofs.Common.{◌∙◌, sym}
use Rattle.cpl_match.proofs.MarkFacts.{shares_call-next}
use Rattle.cpl_match.proofs.marks.note_calls.Goals as goal

pub loop-call-preserved : goal.loop-call-preserved
loop-call-preserved c = record {
  count = c.give_bits.ensures.count ∙ c.loop-call.invariant.count;
  noted = λ name bit.
      rw (c.give_bits.ensures.given name bit, c.loop-call.invariant.noted name bit, c.bits_of-bits.ensures bit, c.call_names-names.ensures.names)
      (sym (shares_call-next c.args.dict.now c.args.own.now c.loop-call.call name bit));
}

use Rattle.std.proofs.Common.{◌∙◌, ap, get_or, sym}
use Rattle.cpl_match.specs.declared.port.Pair.{Pair}
use Rattle.cpl_serial.proofs.CarryFacts.{carried-step}
use Rattle.cpl_serial.specs.Passed.{is_passed}
use Rattle.cpl_serial.proofs.linking.carry_at.Goals as goal

pub returns-then-is_passed-clause-linked : goal.returns-then-is_passed-clause-linked
returns-then-is_passed-clause-linked c = λ first linked.
    let nothing : Pair = record { src = 0; src_field = 0; dst = 0; dst_field = 0 } in
    let passed = sym (c.is_passed.ensures ∙ ap (λ comps. is_passed comps c.args.at_init (get_or c.items.result.now c.args.j nothing)) c.comps.ensures) ∙ c.if-is_passed.true in
    record {
      whole = c.carry_pair.ensures.whole;
      aged = λ done each. c.carry_pair.ensures.aged done (linked.aged done each);
      after = λ world stand.
          carried-step c.args.system.now c.args.line.now c.requires.connector c.args.at_init world c.args.j nothing c.items.result.now c.args.locals.now c.carry_pair.new.locals
          c.items.ensures c.requires.place passed c.carry_pair.ensures.after stand.held (linked.after world stand);
    }

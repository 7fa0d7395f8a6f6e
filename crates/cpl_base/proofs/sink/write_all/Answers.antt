use Rattle.std.proofs.Common.{◌≤◌, length, length-drop, ◌∙◌, arith}
use Rattle.cpl_base.proofs.OutsideFacts.{rest_more, told_more}
use Rattle.cpl_base.proofs.sink.write_all.Goals as goal

pub loop-rest-preserved : goal.loop-rest-preserved
loop-rest-preserved g c =
    let bytes = c.args.bytes.now in
    let rest = c.loop-rest.rest.now in
    let n = c.in_ok-taken.taken in
    let before = c.loop-rest.invariant in
    let taken = c.in_ok-taken.ensures in
    let fits : n ≤ length rest = taken.taken.0 in
    rw c.split_at.ensures.back (record {
      rest_is = rest_more bytes rest n before.rest_is before.shorter fits;
      shorter = omega (arith, length-drop n rest);
      written = told_more bytes rest n _ _ _ before.rest_is before.shorter fits before.written taken.ok;
      quiet = taken.quiet ∙ before.quiet;
    })

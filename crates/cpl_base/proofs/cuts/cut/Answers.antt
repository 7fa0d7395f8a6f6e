use Rattle.std.proofs.Common.{◌+◌, add-one, arith, sym}
use Rattle.std.proofs.lemmas.List.{take_rest}
use Rattle.cpl_base.proofs.CutFacts.{cut_at-found, cut_at-none}
use Rattle.cpl_base.proofs.cuts.cut.Goals as goal

pub returns-then-byte-at : goal.returns-then-byte-at
returns-then-byte-at c =
    let found = cut_at-found c.args.at c.args.text.now c.loop-i.i c.loop-i.invariant c.loop-i-test.true c.if-byte-at.true in
    rw (take_rest c.args.text.now (c.loop-i.i + 1), add-one) (sym found)

pub returns : goal.returns
returns c =
    sym (cut_at-none c.args.at c.args.text.now (λ j l. c.loop-i.invariant j (omega arith)))

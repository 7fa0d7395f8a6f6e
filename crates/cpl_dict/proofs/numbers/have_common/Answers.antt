use Rattle.std.proofs.Common.{◌<◌, arith, get_or, drop, ap, sym, ◌∙◌}
use Rattle.std.proofs.lemmas.List.{drop_all}
use Rattle.cpl_dict.proofs.AscendingFacts.{IsAscending-rest, have_common-nil, have_common-pass_first, have_common-pass_second}
use Rattle.cpl_dict.specs.Numbers.{have_common}
use Rattle.cpl_dict.proofs.numbers.have_common.Goals as goal

pub loop-i-preserved-then-a-i-2 : goal.loop-i-preserved-then-a-i-2
loop-i-preserved-then-a-i-2 c =
    let a = c.args.a.now in
    let b = c.args.b.now in
    let i = c.loop-i.i in
    let j = c.loop-i.j in
    let so_far = c.loop-i.invariant in
    record {
      left_a = IsAscending-rest a i c.loop-i-test.true so_far.left_a;
      left_b = so_far.left_b;
      same = have_common-pass_first a b i j c.loop-i-test.true c.if-j-b.true c.if-a-i-2.true so_far.left_b ∙ so_far.same;
    }

pub loop-i-preserved : goal.loop-i-preserved
loop-i-preserved c =
    let a = c.args.a.now in
    let b = c.args.b.now in
    let i = c.loop-i.i in
    let j = c.loop-i.j in
    let so_far = c.loop-i.invariant in
    let above : get_or b j 0 < get_or a i 0 = omega arith in
    record {
      left_a = so_far.left_a;
      left_b = IsAscending-rest b j c.if-j-b.true so_far.left_b;
      same = have_common-pass_second a b i j c.loop-i-test.true c.if-j-b.true above so_far.left_a ∙ so_far.same;
    }

pub returns-else-j-b : goal.returns-else-j-b
returns-else-j-b c =
    let a = c.args.a.now in
    let b = c.args.b.now in
    let i = c.loop-i.i in
    let j = c.loop-i.j in
    let left = drop i a in
    sym (have_common-nil left) ∙ ap (have_common left) (sym (drop_all j b c.if-j-b.false)) ∙ c.loop-i.invariant.same

use Rattle.std.proofs.Common.{◌+◌, ◌-◌, arith}
use Rattle.cpl_sweep.specs.Places.{value_at}
use Rattle.cpl_rule.proofs.SweptFacts.{swept-block}
use Rattle.cpl_rule.proofs.assigning.sweep_block.Goals as goal

pub returns : goal.returns
returns c =
    let first = c.first-first.result in
    let span = c.span-span.result in
    swept-block c.args.frame.now (value_at c.args.places.now c.args.fields.now c.args.tree.now) first span (first + span - first) c.args.out.now c.sweep.new.these
    c.frame_laws.ensures c.first-first.ensures.value c.span-span.ensures.value (omega arith) c.requires.out c.requires.out_values c.sweep.ensures.within c.sweep.ensures.values

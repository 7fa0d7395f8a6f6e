use Rattle.std.proofs.Common.{◌<◌, arith, length, subst}
use Rattle.cpl_comp.specs.declared.component.MergeRow.{MergeRow}
use Rattle.cpl_rule.specs.Swept.{IsSwept}
use Rattle.cpl_phase.specs.Merging.{merge_step}
use Rattle.cpl_phase.proofs.AssignmentFacts.{merged-more}
use Rattle.cpl_phase.proofs.RefreshedFacts.{on-block-set}
use Rattle.cpl_phase.proofs.merging.merge_all.Goals as goal

pub loop-j-preserved : goal.loop-j-preserved
loop-j-preserved c =
    let j = c.loop-j.j in
    let made = c.merge_field.ensures in
    let Made : MergeRow → Type 0 = λ row. IsSwept c.args.frame.now (merge_step c.args.frame.now row.terms c.args.fields.now) c.merge_field.new.out in
    let there : j < length c.loop-j.others = omega (arith, c.loop-j-test.true, c.requires.count, c.loop-j.auto.others) in
    record {
      values = merged-more c.args.frame.now c.args.rows.now c.args.fields.now c.loop-j.others j c.merge_field.new.out c.index-rows-j.result
          c.loop-j-test.true there c.loop-j.invariant.values (subst Made c.index-rows-j.is made);
      others = on-block-set c.args.frame.now
          (length c.args.others.now) c.loop-j.others j c.merge_field.new.out c.loop-j.invariant.others made.places made.values;
    }

pub returns-clause-values : goal.returns-clause-values
returns-clause-values c = λ i row below within. c.loop-j.invariant.values i row (omega (arith, below, c.loop-j-test.false)) within

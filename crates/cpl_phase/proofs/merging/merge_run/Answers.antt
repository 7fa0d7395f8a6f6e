use Rattle.std.proofs.Common.{◌∙◌, ◌+◌, ◌<◌, length, ℤ, arith, sym, subst, rules, w64}
use Rattle.std.proofs.lemmas.Int.{to_z-of_z}
use Rattle.cpl_base.specs.Numbers.{IsValue}
use Rattle.cpl_rule.proofs.SweptFacts.{ran-more, within-more}
use Rattle.cpl_phase.specs.Merging.{merge_at}
use Rattle.cpl_phase.proofs.merging.merge_run.Goals as goal
use mir.Val.{SFits, of_z, to_z}

pub loop-step-preserved : goal.loop-step-preserved
loop-step-preserved c =
    let fits : SFits w64 c.merge_one.result = search rules in
    let step = c.loop-step.step in
    let these = c.loop-step.these in
    let v = to_z w64 (of_z w64 c.merge_one.result) in
    let inside : step < length these = omega (arith, c.loop-step-test.true, c.loop-step.auto.these) in
    record {
      values = ran-more (λ step. merge_at c.args.terms.now c.args.fields.now (c.args.first + step)) step these v inside c.loop-step.invariant.values
          (to_z-of_z w64 c.merge_one.result fits ∙ c.merge_one.ensures.value);
      within = within-more step these v inside c.loop-step.invariant.within
          (subst (λ (z : ℤ). IsValue z) (sym (to_z-of_z w64 c.merge_one.result fits)) c.merge_one.ensures.within);
    }

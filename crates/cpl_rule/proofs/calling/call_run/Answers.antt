use Rattle.std.proofs.Common.{arith, ◌∙◌, ◌<◌, length, ℤ, ap, sym, subst, rules, w64}
use Rattle.std.proofs.lemmas.Int.{to_z-of_z}
use Rattle.std.proofs.lemmas.Grind.{common_steps}
use Rattle.cpl_base.specs.Numbers.{IsValue}
use Rattle.cpl_comp.specs.Readings.{entry_answer}
use Rattle.cpl_entry.specs.Books.{entries_of}
use Rattle.cpl_sweep.specs.Places.{inputs_at}
use Rattle.cpl_rule.specs.Assigned.{answers_of}
use Rattle.cpl_rule.proofs.SweptFacts.{ran-more, within-more}
use Rattle.cpl_rule.proofs.calling.call_run.Goals as goal
use mir.Val.{SFits, of_z, to_z}

pub loop-cell-preserved : goal.loop-cell-preserved
loop-cell-preserved g c =
    let fits : SFits w64 c.call.result = search rules in
    let inside : c.loop-cell.cell < length c.loop-cell.these = omega (arith, c.loop-cell-test.true, c.loop-cell.auto.these) in
    record {
      inputs = grind (arith, common_steps);
      values = ran-more (λ cell. entry_answer (answers_of (entries_of c.args.book.now)) c.args.entry (inputs_at c.args.places.now c.args.fields.now cell)) c.loop-cell.cell c.loop-cell.these (to_z w64 (of_z w64 c.call.result)) inside c.loop-cell.invariant.values
          (to_z-of_z w64 c.call.result fits ∙ c.call.ensures.value ∙ ap (entry_answer (answers_of (entries_of c.args.book.now)) c.args.entry) c.gather.ensures.values);
      within = within-more c.loop-cell.cell c.loop-cell.these (to_z w64 (of_z w64 c.call.result)) inside c.loop-cell.invariant.within (subst (λ (z : ℤ). IsValue z) (sym (to_z-of_z w64 c.call.result fits)) c.call.ensures.within);
    }

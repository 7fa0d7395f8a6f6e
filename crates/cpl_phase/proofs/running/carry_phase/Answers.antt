use Rattle.std.proofs.Common.{◌∙◌, subst, sym}
use Rattle.std.specs.Prelude.{◌+◌, ◌≤◌, All}
use Rattle.cpl_phase.proofs.ListFacts.{back-same}
use Rattle.cpl_phase.proofs.running.carry_phase.Goals as goal

pub returns-clause-aged : goal.returns-clause-aged
returns-clause-aged g c = λ bound each.
    let same = c.carry_out.ensures.accums.number ∙ sym c.requires.accums.number in
    subst (λ xs. All (λ accum. accum.count ≤ bound + 1) xs) (sym (back-same c.args.accums.now c.carry_out.new.accums same))
    (c.carry_out.ensures.aged bound (subst (λ xs. All (λ accum. accum.count ≤ bound) xs) (sym c.as_mut_slice-2.ensures.value) each))

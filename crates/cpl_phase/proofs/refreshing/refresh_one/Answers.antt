use Rattle.std.proofs.Common.{List, ◌∙◌, ℤ, ap, length, subst, sym}
use Rattle.cpl_block.specs.Rings.{IsRefilled}
use Rattle.cpl_phase.proofs.RefreshedFacts.{left-same}
use Rattle.cpl_phase.proofs.refreshing.refresh_one.Goals as goal

pub returns : goal.returns
returns c =
    let Old : List ℤ → Type 0 = λ old. IsRefilled c.args.frame.now old c.refill.new.field in
    let New : List ℤ → Type 0 = λ new. IsRefilled c.args.frame.now c.args.field.now new in
    subst New (sym (left-same c.args.field.now c.refill.new.field (c.refill.ensures.count ∙ ap length c.values_mut.ensures.value)))
    (subst Old c.values_mut.ensures.value c.refill.ensures)

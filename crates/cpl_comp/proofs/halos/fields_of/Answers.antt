use Rattle.std.proofs.Common.{ℕ, Bool, ◌∙◌, sym, ap, Vec, Global}
use Rattle.std.specs.List.{list_any}
use Rattle.cpl_comp.specs.Halos.{has_read, is_read_beside}
use Rattle.cpl_comp.specs.Views.{rules_in}
use Rattle.cpl_comp.proofs.HaloFacts.{filter-range_fails, filter-range_passes}
use Rattle.cpl_comp.proofs.halos.fields_of.Goals as goal
use Rattle.cpl_comp.proofs.halos.fields_of.Goals.{then-some_has+in_ok-push, else-some_has}

pub loop-place-preserved : goal.loop-place-preserved
loop-place-preserved c =
    let test : ℕ → Bool = λ field. list_any (has_read (is_read_beside field)) (rules_in c.args.rules.now) in
    elim c.if-some_has.branch [
      | then-some_has+in_ok-push w ↦ filter-range_passes test c.loop-place.place c.loop-place.fields.items c.if-some_has.fields.items (sym c.some_has.ensures ∙ w.if-some_has.true) c.loop-place.invariant (ap (λ (v : Vec ℕ Global). v.items) w.fields-is ∙ w.in_ok-push.ensures.items)
      | else-some_has w ↦ filter-range_fails test c.loop-place.place c.if-some_has.fields.items (sym c.some_has.ensures ∙ w.if-some_has.false) (ap (λ (v : Vec ℕ Global). v.items) w.fields-is ∙ c.loop-place.invariant)
    ]

use Rattle.std.proofs.Common.{ℤ, Bool, ◌∙◌, sym, ap, Vec, Global}
use Rattle.std.specs.List.{list_any}
use Rattle.cpl_comp.specs.Halos.{has_read, is_read_at, near_offsets}
use Rattle.cpl_comp.specs.Views.{rules_in}
use Rattle.cpl_comp.proofs.HaloFacts.{filter-take_fails, filter-take_passes}
use Rattle.cpl_comp.proofs.halos.offsets_of.Goals as goal
use Rattle.cpl_comp.proofs.halos.offsets_of.Goals.{then-some_has+in_ok-push, else-some_has}

pub loop-place-preserved : goal.loop-place-preserved
loop-place-preserved c =
    let test : (ℤ × ℤ) → Bool = λ offset. list_any (has_read (is_read_at offset)) (rules_in c.args.rules.now) in
    let offset = c.near_offset-offset.result in
    let there = c.near_offset-offset.ensures in
    elim c.if-some_has.branch [
      | then-some_has+in_ok-push w ↦ filter-take_passes test near_offsets c.loop-place.place offset c.loop-place.offsets.items c.if-some_has.offsets.items there (sym c.some_has.ensures ∙ w.if-some_has.true) c.loop-place.invariant (ap (λ (v : Vec (ℤ × ℤ) Global). v.items) w.offsets-is ∙ w.in_ok-push.ensures.items)
      | else-some_has w ↦ filter-take_fails test near_offsets c.loop-place.place offset c.if-some_has.offsets.items there (sym c.some_has.ensures ∙ w.if-some_has.false) (ap (λ (v : Vec (ℤ × ℤ) Global). v.items) w.offsets-is ∙ c.loop-place.invariant)
    ]

use Rattle.std.proofs.Common.{ℕ, ◌<◌, ◌∙◌, ap, arith, length, length-append, sym, subst, Vec, Global}
use Rattle.std.specs.List.{All}
use Rattle.std.proofs.lemmas.List.Elements.{All-push}
use Rattle.cpl_comp.specs.Turns.{has_role}
use Rattle.cpl_marks.proofs.ListFacts.{filter-range_fails, filter-range_passes}
use Rattle.cpl_marks.proofs.places.places_of.Goals as goal
use Rattle.cpl_marks.proofs.places.places_of.Goals.{then-has_role+in_ok-push, else-has_role}

pub loop-place-preserved : goal.loop-place-preserved
loop-place-preserved c =
    let test = has_role c.args.role c.args.fields.now in
    let k = c.loop-place.place in
    let before = c.loop-place.places.items in
    let after = c.if-has_role.places.items in
    elim c.if-has_role.branch [
      | then-has_role+in_ok-push w ↦
          let more = ap (λ (v : Vec ℕ Global). v.items) w.places-is ∙ w.in_ok-push.ensures.items in
          record {
            value = filter-range_passes test k before after (sym c.has_role.ensures ∙ w.if-has_role.true) c.loop-place.invariant.value more;
            within = subst (All (λ j. j < length c.args.fields.now)) (sym more) (All-push (λ j. j < length c.args.fields.now) before k c.loop-place.invariant.within c.loop-place-test.true);
            few = grind (arith, length-append, more, c.loop-place.invariant.few);
          }
      | else-has_role w ↦
          let same = ap (λ (v : Vec ℕ Global). v.items) w.places-is in
          record {
            value = filter-range_fails test k after (sym c.has_role.ensures ∙ w.if-has_role.false) (same ∙ c.loop-place.invariant.value);
            within = subst (All (λ j. j < length c.args.fields.now)) (sym same) c.loop-place.invariant.within;
            few = grind (arith, same, c.loop-place.invariant.few);
          }
    ]

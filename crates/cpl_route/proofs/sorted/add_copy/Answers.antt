use Rattle.std.proofs.Common.{ap, arith, ◌∙◌}
use Rattle.cpl_route.specs.Picks.{is_listed}
use Rattle.cpl_route.proofs.PickFacts.{copies-pass, copies-push}
use Rattle.cpl_route.proofs.sorted.add_copy.Goals as goal

pub returns-in_default : goal.returns-in_default
returns-in_default c = copies-pass c.args.needs.now c.args.copies.now.items c.args.pet c.requires.copies c.in_default.ensures

pub returns : goal.returns
returns c =
    rw c.in_ok-push.ensures.items
    (copies-push c.args.needs.now c.args.copies.now.items c.args.pet c.in-Some.place c.in_ok-copy.copy c.index-needs-place.result c.requires.copies c.requires.distinct
    c.in-Some.ensures.inside (c.in-Some.ensures.is_pet c.index-needs-place.result)
    (c.in_ok-copy.ensures.pet ∙ ap (λ need. need.pet) c.index-needs-place.is ∙ c.in-Some.ensures.is_pet c.index-needs-place.result)
    (omega arith) c.in_ok-copy.ensures.ascending
    (λ s. c.in_ok-copy.ensures.same s ∙ ap (λ need. is_listed need.cells s) c.index-needs-place.is))

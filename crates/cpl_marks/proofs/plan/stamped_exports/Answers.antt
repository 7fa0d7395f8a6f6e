use Rattle.std.proofs.Common.{◌≡◌, ◌<◌, ◌∙◌, List, ap, length, sym, subst}
use Rattle.std.specs.List.{All, filter}
use Rattle.std.proofs.lemmas.List.Elements.{All-filter}
use Rattle.cpl_comp.specs.Components.{written_fields}
use Rattle.cpl_comp.specs.Turns.{is_among}
use Rattle.cpl_comp.specs.declared.component.Field.{Field}
use Rattle.cpl_marks.proofs.plan.stamped_exports.Goals as goal

pub returns-in_ok-written-in-Mediator-clause-within : goal.returns-in_ok-written-in-Mediator-clause-within
returns-in_ok-written-in-Mediator-clause-within c =
    let test = is_among (written_fields c.args.phase.now) in
    let exports = c.in_ok-exports.exports in
    let is : c.in_ok-written-in-Mediator.written ≡ filter test exports = c.in_ok-written-in-Mediator.ensures ∙ ap (filter test) c.items-in-Mediator.ensures in
    let below : All (λ k. k < length c.args.comp.now.fields) exports =
    subst (λ (fields : List Field). All (λ k. k < length fields) exports) c.items.ensures c.in_ok-exports.ensures.within in
    subst (All (λ k. k < length c.args.comp.now.fields)) (sym is) (All-filter test (λ k. k < length c.args.comp.now.fields) exports below)

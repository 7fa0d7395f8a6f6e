use Rattle.std.proofs.Common.{◌∙◌, ap, get_or, refl}
use Rattle.std.specs.Prelude.{length}
use Rattle.std.proofs.lemmas.Option.{slice_get_read}
use Rattle.cpl_serial.proofs.CarryFacts.{linked-world}
use Rattle.cpl_serial.proofs.linking.link_at.Goals as goal

pub returns-clause-after : goal.returns-clause-after
returns-clause-after c = λ entries world stand.
    let links = c.args.system.now.links in
    let link = c.index-links-link.result in
    let there = slice_get_read links (length links) c.args.link link refl c.requires.link (c.index-links-link.is ∙ ap (λ xs. get_or xs c.args.link link) c.links.ensures) in
    linked-world c.args.system.now c.facts.ensures entries c.args.link link there c.args.at_init world c.args.locals.now c.carry_pairs.new.locals
    c.carry_pairs.ensures.linked stand

use Rattle.std.proofs.Common.{◌∙◌, ap, get_or, refl, subst}
use Rattle.std.specs.Prelude.{◌<◌, length}
use Rattle.std.proofs.lemmas.Option.{slice_get_read}
use Rattle.cpl_script.specs.SerialRun.{world_before}
use Rattle.cpl_script.specs.Transfers.{comp_at}
use Rattle.cpl_serial.proofs.CarryFacts.{lined-values}
use Rattle.cpl_serial.proofs.EngineFacts.{member-there}
use Rattle.cpl_serial.proofs.world.World.values.Goals as goal

pub returns : goal.returns
returns c = λ coupling entries k before.
    let locals = c.args.self.now.comps in
    let place = c.args.component in
    let local = c.index-items-component.result in
    let stands = slice_get_read locals (length locals) place local refl c.requires.there (c.index-items-component.is ∙ ap (λ xs. get_or xs place local) c.items.ensures) in
    let below : place < length coupling.comps = subst (λ n. place < n) before.made.whole.size c.requires.there in
    let comp = member-there coupling.comps place below in
    let is = before.made.whole.each place comp.member local comp.stands stands in
    let field : c.args.field < length comp.member.fields = subst (λ n. c.args.field < n) is.is.shown (c.requires.below local stands) in
    c.values.ensures
    ∙ lined-values coupling place comp.member local is c.args.field field (comp_at (world_before coupling entries k) place)
    (before.stands.each place comp.member local comp.stands stands) (before.stands.held.each place comp.member comp.stands)

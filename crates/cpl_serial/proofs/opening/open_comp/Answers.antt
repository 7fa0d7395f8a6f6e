use Rattle.std.proofs.Common.{◌≡◌, ◌∙◌, Bool, List, ap, get_or, length, refl, subst, sym}
use Rattle.std.proofs.lemmas.Option.{slice_get_read}
use Rattle.cpl_comp.specs.Worlds.{first_comp}
use Rattle.cpl_comp.specs.declared.component.Comp.{Comp}
use Rattle.cpl_grid.specs.Parts.{whole_part}
use Rattle.cpl_marks.specs.Plans.{is_connected as is_held_connected}
use Rattle.cpl_phase.specs.Locals.{IsLocal, StandsForComp}
use Rattle.cpl_serial.proofs.EngineFacts.{same-member}
use Rattle.cpl_serial.proofs.opening.open_comp.Goals as goal

pub returns-clause-whole : goal.returns-clause-whole
returns-clause-whole c = λ comp there.
    let comps = c.args.system.now.comps in
    let place = c.args.component in
    let here = c.index-comps-place.result in
    let found = slice_get_read comps (length comps) place here refl c.requires (c.index-comps-place.is ∙ ap (λ (xs : List Comp). get_or xs place here) c.comps.ensures) in
    let same : here ≡ comp = same-member comps place here comp found there in
    let local = c.in_ok-local.local in
    let is = c.in_ok-local.ensures in
    record {
      is = subst (λ (q : Comp). IsLocal q local) same is.local;
      whole = is.part ∙ c.whole_part-part.ensures ∙ ap whole_part (c.grid.ensures.value ∙ sym is.local.over);
      alone = c.whole_laws.ensures;
      connected = λ k. ap (λ (connected : List Bool). is_held_connected connected k) (is.connected ∙ c.as_slice.ensures.value) ∙ c.in_ok-connected.ensures.value k;
    }

pub returns-clause-start : goal.returns-clause-start
returns-clause-start c = λ comp there.
    let comps = c.args.system.now.comps in
    let place = c.args.component in
    let here = c.index-comps-place.result in
    let found = slice_get_read comps (length comps) place here refl c.requires (c.index-comps-place.is ∙ ap (λ (xs : List Comp). get_or xs place here) c.comps.ensures) in
    let same : here ≡ comp = same-member comps place here comp found there in
    subst (λ (q : Comp). StandsForComp q (first_comp q) c.in_ok-local.local) same c.in_ok-local.ensures.start

use Rattle.std.proofs.Common.{◌<◌, ◌++◌, ◌∙◌, List, [], ◌∷◌, length, ap, get_or, refl, subst, sym}
use Rattle.std.proofs.lemmas.Option.{slice_get_read}
use Rattle.cpl_comp.specs.declared.component.Comp.{Comp}
use Rattle.cpl_phase.specs.declared.local.LocalComp.{LocalComp}
use Rattle.cpl_script.specs.Transfers.{comp_at}
use Rattle.cpl_serial.proofs.EngineFacts.{place-below}
use Rattle.cpl_serial.proofs.OpFacts.{ends-next}
use Rattle.cpl_serial.proofs.ending.ends_of.Goals as goal

pub comp_end-requires-clause-local : goal.comp_end-requires-clause-local
comp_end-requires-clause-local c =
    let comps = c.args.system.now.comps in
    let locals = c.args.locals.now in
    let place = c.loop-c.c in
    let comp = c.index-comps-c.result in
    let local = c.index-slots-c.result in
    let below : place < length comps = subst (λ (xs : List Comp). place < length xs) c.comps-comps.ensures c.loop-c-test.true in
    let there = slice_get_read comps (length comps) place comp refl below
    (c.index-comps-c.is ∙ ap (λ (xs : List Comp). get_or xs place comp) c.comps-comps.ensures) in
    let inside : place < length locals = place-below c.args.system.now locals place comp local there c.requires in
    let stands = slice_get_read locals (length locals) place local refl inside
    (c.index-slots-c.is ∙ ap (λ (xs : List LocalComp). get_or xs place local) c.items-slots.ensures) in
    (c.requires.each place comp local there stands).is

pub comp_end-requires-clause-whole : goal.comp_end-requires-clause-whole
comp_end-requires-clause-whole c =
    let comps = c.args.system.now.comps in
    let locals = c.args.locals.now in
    let place = c.loop-c.c in
    let comp = c.index-comps-c.result in
    let local = c.index-slots-c.result in
    let below : place < length comps = subst (λ (xs : List Comp). place < length xs) c.comps-comps.ensures c.loop-c-test.true in
    let there = slice_get_read comps (length comps) place comp refl below
    (c.index-comps-c.is ∙ ap (λ (xs : List Comp). get_or xs place comp) c.comps-comps.ensures) in
    let inside : place < length locals = place-below c.args.system.now locals place comp local there c.requires in
    let stands = slice_get_read locals (length locals) place local refl inside
    (c.index-slots-c.is ∙ ap (λ (xs : List LocalComp). get_or xs place local) c.items-slots.ensures) in
    (c.requires.each place comp local there stands).whole

pub loop-c-preserved : goal.loop-c-preserved
loop-c-preserved c = λ world stand.
    let comps = c.args.system.now.comps in
    let locals = c.args.locals.now in
    let place = c.loop-c.c in
    let comp = c.index-comps-c.result in
    let local = c.index-slots-c.result in
    let below : place < length comps = subst (λ (xs : List Comp). place < length xs) c.comps-comps.ensures c.loop-c-test.true in
    let there = slice_get_read comps (length comps) place comp refl below
    (c.index-comps-c.is ∙ ap (λ (xs : List Comp). get_or xs place comp) c.comps-comps.ensures) in
    let inside : place < length locals = place-below c.args.system.now locals place comp local there c.requires in
    let stands = slice_get_read locals (length locals) place local refl inside
    (c.index-slots-c.is ∙ ap (λ (xs : List LocalComp). get_or xs place local) c.items-slots.ensures) in
    let is = c.in_ok-end.ensures (comp_at world place) (stand.each place comp local there stands) in
    let before = c.loop-c.invariant world stand in
    c.in_ok-push.ensures.items ∙ (λ i. before i ++ is i ∷ []) ∙ sym (ends-next world comps place comp there)

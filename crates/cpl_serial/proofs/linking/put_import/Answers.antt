use Rattle.std.proofs.Common.{◌∙◌, ap, get_or, refl, subst, sym}
use Rattle.std.specs.Prelude.{◌≡◌, ◌<◌, All, List, length}
use Rattle.std.proofs.lemmas.List.Elements.{All-set}
use Rattle.std.proofs.lemmas.Option.{slice_get_read}
use Rattle.cpl_block.specs.Laws.{IsAlone}
use Rattle.cpl_block.specs.declared.frame.Frame.{Frame}
use Rattle.cpl_comp.specs.Worlds.{CompWorld, FieldWorld, changed}
use Rattle.cpl_grid.specs.Parts.{whole_part}
use Rattle.cpl_marks.specs.Plans.{is_connected as is_held_connected}
use Rattle.cpl_phase.specs.Locals.{IsAged}
use Rattle.cpl_phase.specs.declared.local.LocalComp.{LocalComp}
use Rattle.cpl_script.specs.Transfers.{comp_at}
use Rattle.cpl_serial.proofs.EngineFacts.{alone-again, back-set, cells-count, cells-there, lent-member, place-below, stand-each, whole-set}
use Rattle.cpl_serial.specs.Engines.{AreWhole, StandEach}
use Rattle.cpl_serial.proofs.linking.put_import.Goals as goal

pub import-requires-clause-local : goal.import-requires-clause-local
import-requires-clause-local c =
    let coupling = c.args.system.now in
    let place = c.args.component in
    let comp = c.index-comps-place.result in
    let locals = c.args.locals.now in
    let slots = c.as_mut_slice-slots.result.now in
    let there = slice_get_read coupling.comps (length coupling.comps) place comp refl c.requires.component (c.index-comps-place.is ∙ ap (λ xs. get_or xs place comp) c.comps.ensures) in
    let inside : place < length locals = place-below coupling locals place comp c.index-slots-place.result there c.requires.whole in
    let local = get_or slots place c.index-slots-place.result in
    let stands = lent-member locals slots place c.index-slots-place.result c.as_mut_slice-slots.ensures.value inside in
    let is = c.requires.whole.each place comp local there stands in
    is.is

pub import-requires-clause-field : goal.import-requires-clause-field
import-requires-clause-field c =
    let coupling = c.args.system.now in
    let place = c.args.component in
    let comp = c.index-comps-place.result in
    let locals = c.args.locals.now in
    let slots = c.as_mut_slice-slots.result.now in
    let there = slice_get_read coupling.comps (length coupling.comps) place comp refl c.requires.component (c.index-comps-place.is ∙ ap (λ xs. get_or xs place comp) c.comps.ensures) in
    c.requires.field comp there

pub import-requires-clause-count : goal.import-requires-clause-count
import-requires-clause-count c =
    let coupling = c.args.system.now in
    let place = c.args.component in
    let comp = c.index-comps-place.result in
    let locals = c.args.locals.now in
    let slots = c.as_mut_slice-slots.result.now in
    let there = slice_get_read coupling.comps (length coupling.comps) place comp refl c.requires.component (c.index-comps-place.is ∙ ap (λ xs. get_or xs place comp) c.comps.ensures) in
    let inside : place < length locals = place-below coupling locals place comp c.index-slots-place.result there c.requires.whole in
    let local = get_or slots place c.index-slots-place.result in
    let stands = lent-member locals slots place c.index-slots-place.result c.as_mut_slice-slots.ensures.value inside in
    let is = c.requires.whole.each place comp local there stands in
    c.requires.count ∙ cells-there coupling.comps place comp there ∙ sym (cells-count local.frame comp is.alone is.is.over)

pub returns-clause-whole : goal.returns-clause-whole
returns-clause-whole c =
    let coupling = c.args.system.now in
    let place = c.args.component in
    let comp = c.index-comps-place.result in
    let locals = c.args.locals.now in
    let slots = c.as_mut_slice-slots.result.now in
    let there = slice_get_read coupling.comps (length coupling.comps) place comp refl c.requires.component (c.index-comps-place.is ∙ ap (λ xs. get_or xs place comp) c.comps.ensures) in
    let inside : place < length locals = place-below coupling locals place comp c.index-slots-place.result there c.requires.whole in
    let local = get_or slots place c.index-slots-place.result in
    let stands = lent-member locals slots place c.index-slots-place.result c.as_mut_slice-slots.ensures.value inside in
    let is = c.requires.whole.each place comp local there stands in
    let new = c.import.new.self in
    subst (AreWhole coupling) (sym (back-set locals slots place new c.as_mut_slice-slots.ensures.value))
    (whole-set coupling locals place comp new there c.requires.whole (record {
      is = c.import.ensures.local;
      whole = subst (λ (frame : Frame). frame.part ≡ whole_part frame.grid) (sym c.import.ensures.frame) is.whole;
      alone = subst IsAlone (sym c.import.ensures.frame) is.alone;
      connected = λ k. ap (λ connected. is_held_connected connected k) c.import.ensures.connected ∙ is.connected k;
    }))

pub returns-clause-aged : goal.returns-clause-aged
returns-clause-aged c = λ done each.
    let coupling = c.args.system.now in
    let place = c.args.component in
    let comp = c.index-comps-place.result in
    let locals = c.args.locals.now in
    let slots = c.as_mut_slice-slots.result.now in
    let there = slice_get_read coupling.comps (length coupling.comps) place comp refl c.requires.component (c.index-comps-place.is ∙ ap (λ xs. get_or xs place comp) c.comps.ensures) in
    let inside : place < length locals = place-below coupling locals place comp c.index-slots-place.result there c.requires.whole in
    let local : IsAged done (get_or slots place c.index-slots-place.result) =
    subst (λ (xs : List LocalComp). IsAged done (get_or xs place c.index-slots-place.result)) (sym c.as_mut_slice-slots.ensures.value) (each place c.index-slots-place.result inside) in
    subst (All (IsAged done)) (sym (back-set locals slots place c.import.new.self c.as_mut_slice-slots.ensures.value))
    (All-set (IsAged done) locals place c.import.new.self (c.import.ensures.aged done local) each)

pub returns-clause-after : goal.returns-clause-after
returns-clause-after c = λ world stand.
    let coupling = c.args.system.now in
    let place = c.args.component in
    let comp = c.index-comps-place.result in
    let locals = c.args.locals.now in
    let slots = c.as_mut_slice-slots.result.now in
    let there = slice_get_read coupling.comps (length coupling.comps) place comp refl c.requires.component (c.index-comps-place.is ∙ ap (λ xs. get_or xs place comp) c.comps.ensures) in
    let inside : place < length locals = place-below coupling locals place comp c.index-slots-place.result there c.requires.whole in
    let local = get_or slots place c.index-slots-place.result in
    let stands = lent-member locals slots place c.index-slots-place.result c.as_mut_slice-slots.ensures.value inside in
    let is = c.requires.whole.each place comp local there stands in
    let new = c.import.new.self in
    let values = c.args.values.now in
    let count = c.requires.count ∙ cells-there coupling.comps place comp there in
    let here = c.import.ensures.after (comp_at world place) values (stand.each place comp local there stands) (sym (alone-again local.frame comp values is.alone is.is.over count)) in
    let change : CompWorld → CompWorld =
    λ q. record q { fields = changed (λ (taken : FieldWorld). record taken { values = values; stamp = c.args.stamp }) c.args.field q.fields } in
    subst (λ (xs : List LocalComp). StandEach coupling (changed change place world) xs) (sym (back-set locals slots place new c.as_mut_slice-slots.ensures.value))
    (stand-each coupling locals place comp new there c.requires.whole world change stand here)

use Rattle.std.proofs.Common.{◌∙◌, ap, get_or, refl, subst, sym}
use Rattle.std.specs.Prelude.{◌≡◌, ◌<◌, All, List, map, length, slice_set}
use Rattle.std.proofs.lemmas.List.Elements.{All-set}
use Rattle.std.proofs.lemmas.Option.{slice_get_read}
use Rattle.cpl_block.specs.Laws.{IsAlone}
use Rattle.cpl_block.specs.declared.frame.Frame.{Frame}
use Rattle.cpl_grid.specs.Parts.{whole_part}
use Rattle.cpl_comp.specs.Timing.{Timing}
use Rattle.cpl_comp.specs.Turns.{comp_after_init}
use Rattle.cpl_entry.specs.Books.{entries_of}
use Rattle.cpl_entry.specs.Entries.{NativeEntry}
use Rattle.cpl_marks.specs.Plans.{is_connected as is_held_connected}
use Rattle.cpl_phase.specs.Locals.{IsAged, StandsForComp}
use Rattle.cpl_phase.specs.declared.local.LocalComp.{LocalComp}
use Rattle.cpl_rule.specs.Assigned.{answers_of}
use Rattle.cpl_script.proofs.WorldFacts.{held-after}
use Rattle.cpl_script.specs.Held.{IsHeldWorld}
use Rattle.cpl_script.specs.SerialRun.{world_after_init}
use Rattle.cpl_script.specs.Transfers.{World, comp_at}
use Rattle.cpl_sequence.specs.declared.op.Op.TheVariants.{Init}
use Rattle.cpl_serial.proofs.EngineFacts.{answers-by, back-set, components-by, lent-member, nothing-far, place-below, stand-set, whole-set, world-init}
use Rattle.cpl_serial.specs.Engines.{AreWhole, StandForWorld}
use Rattle.cpl_serial.proofs.stepping.init_at.Goals as goal

pub init-requires-clause-local : goal.init-requires-clause-local
init-requires-clause-local g c =
    let coupling = c.args.system.now in
    let place = c.args.component in
    let comp = c.index-comps-place.result in
    let locals = c.args.locals.now in
    let slots = c.as_mut_slice-slots.result.now in
    let there = slice_get_read coupling.comps (length coupling.comps) place comp refl c.requires.component (c.index-comps-place.is ∙ ap (λ xs. get_or xs place comp) c.comps.ensures) in
    let inside : place < length locals = place-below coupling locals place comp c.index-slots-place.result there c.requires.whole in
    let stands = lent-member locals slots place c.index-slots-place.result c.as_mut_slice-slots.ensures.value inside in
    (c.requires.whole.each place comp (get_or slots place c.index-slots-place.result) there stands).is

pub returns-clause-whole : goal.returns-clause-whole
returns-clause-whole g c =
    let coupling = c.args.system.now in
    let place = c.args.component in
    let comp = c.index-comps-place.result in
    let locals = c.args.locals.now in
    let slots = c.as_mut_slice-slots.result.now in
    let there = slice_get_read coupling.comps (length coupling.comps) place comp refl c.requires.component (c.index-comps-place.is ∙ ap (λ xs. get_or xs place comp) c.comps.ensures) in
    let inside : place < length locals = place-below coupling locals place comp c.index-slots-place.result there c.requires.whole in
    let local = get_or slots place c.index-slots-place.result in
    let new = c.init.new.self in
    let stands = lent-member locals slots place c.index-slots-place.result c.as_mut_slice-slots.ensures.value inside in
    let is = c.requires.whole.each place comp local there stands in
    subst (AreWhole coupling) (sym (back-set locals slots place new c.as_mut_slice-slots.ensures.value))
    (whole-set coupling locals place comp new there c.requires.whole (record {
      is = c.init.ensures.local;
      whole = subst (λ (frame : Frame). frame.part ≡ whole_part frame.grid) (sym c.init.ensures.frame) is.whole;
      alone = subst IsAlone (sym c.init.ensures.frame) is.alone;
      connected = λ k. ap (λ connected. is_held_connected connected k) c.init.ensures.connected ∙ is.connected k;
    }))

pub returns-clause-aged : goal.returns-clause-aged
returns-clause-aged g c = λ done each.
    let coupling = c.args.system.now in
    let place = c.args.component in
    let comp = c.index-comps-place.result in
    let locals = c.args.locals.now in
    let slots = c.as_mut_slice-slots.result.now in
    let there = slice_get_read coupling.comps (length coupling.comps) place comp refl c.requires.component (c.index-comps-place.is ∙ ap (λ xs. get_or xs place comp) c.comps.ensures) in
    let inside : place < length locals = place-below coupling locals place comp c.index-slots-place.result there c.requires.whole in
    let local : IsAged done (get_or slots place c.index-slots-place.result) =
    subst (λ (xs : List LocalComp). IsAged done (get_or xs place c.index-slots-place.result)) (sym c.as_mut_slice-slots.ensures.value) (each place c.index-slots-place.result inside) in
    subst (All (IsAged done)) (sym (back-set locals slots place c.init.new.self c.as_mut_slice-slots.ensures.value))
    (All-set (IsAged done) locals place c.init.new.self (c.init.ensures.aged done local) each)

pub returns-clause-after : goal.returns-clause-after
returns-clause-after g c = λ world stand.
    let coupling = c.args.system.now in
    let place = c.args.component in
    let comp = c.index-comps-place.result in
    let locals = c.args.locals.now in
    let slots = c.as_mut_slice-slots.result.now in
    let there = slice_get_read coupling.comps (length coupling.comps) place comp refl c.requires.component (c.index-comps-place.is ∙ ap (λ xs. get_or xs place comp) c.comps.ensures) in
    let inside : place < length locals = place-below coupling locals place comp c.index-slots-place.result there c.requires.whole in
    let local = get_or slots place c.index-slots-place.result in
    let new = c.init.new.self in
    let stands = lent-member locals slots place c.index-slots-place.result c.as_mut_slice-slots.ensures.value inside in
    let is = c.requires.whole.each place comp local there stands in
    let book = entries_of c.args.book.now in
    let entries = answers_of book in
    let before = comp_at world place in
    let far = nothing-far local.frame comp.start_halo.fields before.fields local.fields is.alone in
    let after = c.init.ensures.after before (stand.each place comp local there stands) far in
    let here = subst (λ (timing : Timing). StandsForComp comp (comp_after_init timing entries comp before) new) c.times_of-times.ensures after in
    let is_world = world-init coupling entries world place comp there in
    let inputs = map (λ (entry : NativeEntry). entry.inputs) book in
    let held = held-after coupling entries inputs (components-by coupling inputs c.facts.ensures.inputs c.facts.ensures.comps c.requires.calls)
    (answers-by book c.signs.ensures.book.over) world (Init place) stand.held in
    let stood = stand-set coupling locals place comp new there c.requires.whole world (comp_after_init coupling.timing entries comp) stand
    (subst (IsHeldWorld coupling.comps) is_world held) here in
    let after_world = world_after_init coupling entries world place in
    subst (λ (xs : List LocalComp). StandForWorld coupling after_world xs) (sym (back-set locals slots place new c.as_mut_slice-slots.ensures.value))
    (subst (λ (w : World). StandForWorld coupling w (slice_set locals place new)) (sym is_world) stood)

use Rattle.std.proofs.Common.{◌∙◌, ap, get_or, refl, subst, sym}
use Rattle.std.specs.Prelude.{◌≡◌, ◌+◌, ◌<◌, All, List, map, length, slice_set}
use Rattle.std.proofs.lemmas.Option.{slice_get_read, slice_get_within}
use Rattle.cpl_block.specs.Laws.{IsAlone}
use Rattle.cpl_block.specs.declared.frame.Frame.{Frame}
use Rattle.cpl_grid.specs.Parts.{whole_part}
use Rattle.cpl_comp.specs.Timing.{Timing}
use Rattle.cpl_comp.specs.Turns.{comp_after_run, fields_after_run}
use Rattle.cpl_comp.specs.declared.component.Comp.{Comp}
use Rattle.cpl_entry.specs.Books.{entries_of}
use Rattle.cpl_entry.specs.Entries.{NativeEntry}
use Rattle.cpl_marks.specs.Faults.{least_fault, noted_fault}
use Rattle.cpl_marks.specs.Plans.{is_connected as is_held_connected}
use Rattle.cpl_marks.specs.Turns.{turn_of}
use Rattle.cpl_phase.specs.Locals.{IsAged, IsYoung, StandsForComp, faults_on}
use Rattle.cpl_phase.specs.declared.local.LocalComp.{LocalComp}
use Rattle.cpl_rule.specs.Assigned.{answers_of}
use Rattle.cpl_script.proofs.WorldFacts.{held-after}
use Rattle.cpl_script.specs.Couplings.{is_connected}
use Rattle.cpl_script.specs.Held.{IsHeldWorld}
use Rattle.cpl_script.specs.SerialRun.{world_after_run}
use Rattle.cpl_script.specs.Transfers.{World, comp_at}
use Rattle.cpl_sequence.specs.declared.op.Op.TheVariants.{Run}
use Rattle.cpl_serial.proofs.EngineFacts.{aged-set, answers-by, back-set, components-by, faults-alone, faults-run, lent-member, member-there, nothing-far, place-below, same-member, stand-set, whole-set, world-run}
use Rattle.cpl_serial.specs.Engines.{AreWhole, StandForWorld}
use Rattle.cpl_serial.proofs.stepping.run_at.Goals as goal

pub run-requires-clause-local : goal.run-requires-clause-local
run-requires-clause-local g c =
    let place = c.args.component in
    let comps = c.args.system.now.comps in
    let below : place < length comps = slice_get_within comps place c.requires.op.comp c.requires.op.there in
    let there = slice_get_read comps (length comps) place c.index-comps-place.result refl below (c.index-comps-place.is ∙ ap (λ xs. get_or xs place c.index-comps-place.result) c.comps.ensures) in
    let inside : place < length c.args.locals.now = place-below c.args.system.now c.args.locals.now place c.index-comps-place.result c.index-slots-place.result there c.requires.whole in
    let stands = lent-member c.args.locals.now c.as_mut_slice-slots.result.now place c.index-slots-place.result c.as_mut_slice-slots.ensures.value inside in
    (c.requires.whole.each place c.index-comps-place.result (get_or c.as_mut_slice-slots.result.now place c.index-slots-place.result) there stands).is

pub run-requires-clause-young : goal.run-requires-clause-young
run-requires-clause-young g c =
    let place = c.args.component in
    let comps = c.args.system.now.comps in
    let below : place < length c.args.locals.now =
    subst (λ n. place < n) (sym c.requires.whole.size) (slice_get_within comps place c.requires.op.comp c.requires.op.there) in
    subst (λ (xs : List LocalComp). IsYoung (get_or xs place c.index-slots-place.result)) (sym c.as_mut_slice-slots.ensures.value)
    (c.requires.young place c.index-slots-place.result below)

pub run-requires-clause-phase : goal.run-requires-clause-phase
run-requires-clause-phase g c =
    let place = c.args.component in
    let comps = c.args.system.now.comps in
    let below : place < length comps = slice_get_within comps place c.requires.op.comp c.requires.op.there in
    let there = slice_get_read comps (length comps) place c.index-comps-place.result refl below (c.index-comps-place.is ∙ ap (λ xs. get_or xs place c.index-comps-place.result) c.comps.ensures) in
    subst (λ (comp : Comp). c.args.phase < length comp.phases) (same-member comps place c.requires.op.comp c.index-comps-place.result c.requires.op.there there) c.requires.op.phase_below

pub returns-clause-whole : goal.returns-clause-whole
returns-clause-whole g c =
    let coupling = c.args.system.now in
    let place = c.args.component in
    let comp = c.index-comps-place.result in
    let locals = c.args.locals.now in
    let slots = c.as_mut_slice-slots.result.now in
    let local = get_or slots place c.index-slots-place.result in
    let new = c.run.new.self in
    let below : place < length coupling.comps = slice_get_within coupling.comps place c.requires.op.comp c.requires.op.there in
    let there = slice_get_read coupling.comps (length coupling.comps) place comp refl below (c.index-comps-place.is ∙ ap (λ xs. get_or xs place comp) c.comps.ensures) in
    let inside : place < length locals = place-below coupling locals place comp new there c.requires.whole in
    let stands = lent-member locals slots place c.index-slots-place.result c.as_mut_slice-slots.ensures.value inside in
    let is = c.requires.whole.each place comp local there stands in
    subst (AreWhole coupling) (sym (back-set locals slots place new c.as_mut_slice-slots.ensures.value))
    (whole-set coupling locals place comp new there c.requires.whole (record {
      is = c.run.ensures.local;
      whole = subst (λ (frame : Frame). frame.part ≡ whole_part frame.grid) (sym c.run.ensures.frame) is.whole;
      alone = subst IsAlone (sym c.run.ensures.frame) is.alone;
      connected = λ k. ap (λ connected. is_held_connected connected k) c.run.ensures.connected ∙ is.connected k;
    }))

pub returns-clause-aged : goal.returns-clause-aged
returns-clause-aged g c = λ done each.
    let place = c.args.component in
    let locals = c.args.locals.now in
    let slots = c.as_mut_slice-slots.result.now in
    let below : place < length locals =
    subst (λ n. place < n) (sym c.requires.whole.size) (slice_get_within c.args.system.now.comps place c.requires.op.comp c.requires.op.there) in
    let local : IsAged done (get_or slots place c.index-slots-place.result) =
    subst (λ (xs : List LocalComp). IsAged done (get_or xs place c.index-slots-place.result)) (sym c.as_mut_slice-slots.ensures.value) (each place c.index-slots-place.result below) in
    subst (All (IsAged (done + 1))) (sym (back-set locals slots place c.run.new.self c.as_mut_slice-slots.ensures.value))
    (aged-set done locals place c.run.new.self (c.run.ensures.aged done local) each)

pub returns-clause-after : goal.returns-clause-after
returns-clause-after g c = λ world stand.
    let coupling = c.args.system.now in
    let book = entries_of c.args.book.now in
    let entries = answers_of book in
    let place = c.args.component in
    let turn = turn_of c.args.turn.now in
    let comp = c.index-comps-place.result in
    let locals = c.args.locals.now in
    let slots = c.as_mut_slice-slots.result.now in
    let local = get_or slots place c.index-slots-place.result in
    let new = c.run.new.self in
    let below : place < length coupling.comps = slice_get_within coupling.comps place c.requires.op.comp c.requires.op.there in
    let there = slice_get_read coupling.comps (length coupling.comps) place comp refl below (c.index-comps-place.is ∙ ap (λ xs. get_or xs place comp) c.comps.ensures) in
    let inside : place < length locals = place-below coupling locals place comp new there c.requires.whole in
    let stands = lent-member locals slots place c.index-slots-place.result c.as_mut_slice-slots.ensures.value inside in
    let is = c.requires.whole.each place comp local there stands in
    let phases : c.args.phase < length comp.phases =
    subst (λ (q : Comp). c.args.phase < length q.phases) (same-member coupling.comps place c.requires.op.comp comp c.requires.op.there there) c.requires.op.phase_below in
    let stage = member-there comp.phases c.args.phase phases in
    let before = comp_at world place in
    let far = nothing-far local.frame stage.member.halo.fields before.fields local.fields is.alone in
    let after = c.run.ensures.after stage.member before stage.stands (stand.each place comp local there stands) far in
    let here = subst (λ (timing : Timing). StandsForComp comp (comp_after_run timing entries comp stage.member turn before) new) c.times_of-times.ensures after in
    let is_world = world-run coupling entries world place c.args.phase turn comp stage.member there stage.stands in
    let inputs = map (λ (entry : NativeEntry). entry.inputs) book in
    let held = held-after coupling entries inputs (components-by coupling inputs c.facts.ensures.inputs c.facts.ensures.comps c.requires.calls)
    (answers-by book c.signs.ensures.book.over) world
    (Run place c.args.phase turn.time turn.step turn.at turn.substep turn.first turn.last) stand.held in
    let stood = stand-set coupling locals place comp new there c.requires.whole world (comp_after_run coupling.timing entries comp stage.member turn) stand
    (subst (IsHeldWorld coupling.comps) is_world held) here in
    let after_world = world_after_run coupling entries world place c.args.phase turn in
    subst (λ (xs : List LocalComp). StandForWorld coupling after_world xs) (sym (back-set locals slots place new c.as_mut_slice-slots.ensures.value))
    (subst (λ (w : World). StandForWorld coupling w (slice_set locals place new)) (sym is_world) stood)

pub returns-clause-found : goal.returns-clause-found
returns-clause-found g c = λ world stand.
    let coupling = c.args.system.now in
    let entries = answers_of (entries_of c.args.book.now) in
    let place = c.args.component in
    let turn = turn_of c.args.turn.now in
    let comp = c.index-comps-place.result in
    let locals = c.args.locals.now in
    let slots = c.as_mut_slice-slots.result.now in
    let local = get_or slots place c.index-slots-place.result in
    let new = c.run.new.self in
    let below : place < length coupling.comps = slice_get_within coupling.comps place c.requires.op.comp c.requires.op.there in
    let there = slice_get_read coupling.comps (length coupling.comps) place comp refl below (c.index-comps-place.is ∙ ap (λ xs. get_or xs place comp) c.comps.ensures) in
    let inside : place < length locals = place-below coupling locals place comp new there c.requires.whole in
    let stands = lent-member locals slots place c.index-slots-place.result c.as_mut_slice-slots.ensures.value inside in
    let is = c.requires.whole.each place comp local there stands in
    let phases : c.args.phase < length comp.phases =
    subst (λ (q : Comp). c.args.phase < length q.phases) (same-member coupling.comps place c.requires.op.comp comp c.requires.op.there there) c.requires.op.phase_below in
    let stage = member-there comp.phases c.args.phase phases in
    let before = comp_at world place in
    let far = nothing-far local.frame stage.member.halo.fields before.fields local.fields is.alone in
    let found = c.run.ensures.found stage.member before stage.stands (stand.each place comp local there stands) far in
    let first = noted_fault c.args.found.now in
    found
    ∙ ap (λ (timing : Timing). least_fault first (faults_on local.frame comp stage.member turn (is_held_connected local.connected) before (fields_after_run timing entries comp stage.member turn before.fields))) c.times_of-times.ensures
    ∙ ap (least_fault first) (faults-alone local.frame comp stage.member turn (is_held_connected local.connected) (is_connected coupling place) before
    (fields_after_run coupling.timing entries comp stage.member turn before.fields) is.alone is.is.over is.connected)
    ∙ ap (least_fault first) (sym (faults-run coupling entries world place c.args.phase turn comp stage.member there stage.stands))

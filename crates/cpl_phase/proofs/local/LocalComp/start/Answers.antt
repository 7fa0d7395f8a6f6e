use Rattle.std.proofs.Common.{◌≡◌, ◌∙◌, ◌<◌, ℕ, List, ℤ, ap, length, pos, refl, subst, sym}
use Rattle.std.specs.List.{All}
use Rattle.std.specs.Option.{ForSome}
use Rattle.cpl_base.specs.Numbers.{IsValue}
use Rattle.cpl_block.specs.Frames.{places_in}
use Rattle.cpl_comp.specs.Readings.{Reading}
use Rattle.cpl_comp.specs.Turns.{reading_of}
use Rattle.cpl_comp.specs.Worlds.{field_at as world_at}
use Rattle.cpl_comp.specs.Writes.{fields_started}
use Rattle.cpl_comp.specs.declared.component.Field.{Field}
use Rattle.cpl_entry.specs.Books.{entries_of}
use Rattle.cpl_rule.specs.Assigned.{HasRoom, IsRuleOn, answers_of}
use Rattle.cpl_rule.specs.Inputs.{AreFields, HaveNumbers, IsHaloed, arguments_of}
use Rattle.cpl_rule.specs.Moments.{timing_of}
use Rattle.cpl_rule.specs.declared.moment.Times.{Times}
use Rattle.cpl_rule.specs.declared.scene.Scene.{Scene}
use Rattle.cpl_sweep.specs.Places.{field_at}
use Rattle.cpl_phase.specs.Refreshed.{AreOnBlock}
use Rattle.cpl_phase.specs.Shown.{AreShownFor}
use Rattle.cpl_phase.specs.Starts.{places_started}
use Rattle.cpl_phase.specs.Worlds.{HaveArrived, HoldFields, block_values}
use Rattle.cpl_phase.proofs.BeginFacts.{local-left, marks-started, shown-started, start-halo-below, starts-haloed, starts-on, starts-roomy}
use Rattle.cpl_phase.proofs.ListFacts.{back-same, homes-count}
use Rattle.cpl_phase.proofs.KeptWritten.{stand-started}
use Rattle.cpl_phase.proofs.StartFacts.{places-within}
use Rattle.cpl_phase.proofs.local.LocalComp.start.Goals as goal

pub start_all-requires-clause-halo : goal.start_all-requires-clause-halo
start_all-requires-clause-halo g c =
    let comp = c.args.comp.now in
    let accepted = c.requires.accepted in
    subst (λ (halo : List ℕ). All (λ k. k < length c.items.result.now) halo) (sym c.items-2.ensures)
    (subst (λ (described : List Field). All (λ k. k < length described) comp.start_halo.fields) (sym c.items.ensures)
    (start-halo-below accepted.limits comp accepted.is))

pub start_all-requires-clause-rules : goal.start_all-requires-clause-rules
start_all-requires-clause-rules g c =
    let comp = c.args.comp.now in
    let local = c.args.self.now in
    let accepted = c.requires.accepted in
    let is = c.requires.local in
    let book = entries_of c.args.book.now in
    let scene : Scene = record { frame = local.frame; fields = length c.items.result.now; moment = c.moment_at.result } in
    subst (λ (described : List Field). All (λ field. ForSome field.start (IsRuleOn scene book)) described) (sym c.items-3.ensures)
    (starts-on accepted.limits comp accepted.is local.demand is.demand scene book is.rx is.ry (ap length c.items.ensures)
    (accepted.alarm_count ∙ ap (λ (times : Times). length times.alarms.now) (sym c.moment_at.ensures.times)) accepted.inputs)

pub start_all-requires-clause-haloed : goal.start_all-requires-clause-haloed
start_all-requires-clause-haloed g c =
    let comp = c.args.comp.now in
    let accepted = c.requires.accepted in
    let AreHaloed : List ℕ → Field → Type 0 = λ halo field. ForSome field.start (λ rule. All (IsHaloed halo) (arguments_of rule)) in
    subst (All (AreHaloed c.items-2.result.now)) (sym c.items-3.ensures)
    (subst (λ (halo : List ℕ). All (AreHaloed halo) comp.fields) (sym c.items-2.ensures) (starts-haloed accepted.limits comp accepted.is))

pub start_all-requires-clause-room : goal.start_all-requires-clause-room
start_all-requires-clause-room g c =
    let comp = c.args.comp.now in
    let local = c.args.self.now in
    let accepted = c.requires.accepted in
    let is = c.requires.local in
    subst (λ (described : List Field). All (λ field. ForSome field.start (HasRoom local.spare.room)) described) (sym c.items-3.ensures)
    (starts-roomy accepted.limits comp accepted.is local.demand is.demand local.spare.room is.met is.spare.room)

pub show_places-requires-clause-fields : goal.show_places-requires-clause-fields
show_places-requires-clause-fields g c =
    let local = c.args.self.now in
    let left = back-same local.fields c.start_all.new.fields (c.start_all.auto.fields ∙ ap length c.as_mut_slice.ensures.value) in
    subst (λ (fields : List (List ℤ)). All (λ field. length field ≡ places_in local.frame) fields) (sym (c.items-6.ensures ∙ left))
    c.start_all.ensures.fields.places

pub show_places-requires-clause-shown : goal.show_places-requires-clause-shown
show_places-requires-clause-shown g c =
    let local = c.args.self.now in
    subst (λ (shown : List (List ℤ)). All (λ values. length values ≡ length local.area.sites.homes.items) shown) (sym c.as_mut_slice-3.ensures.value)
    (subst (λ n. All (λ values. length values ≡ n) local.shown) (homes-count local.frame local.area.sites c.requires.local.sites)
    c.requires.local.shown_cells)

pub show_places-requires-clause-places : goal.show_places-requires-clause-places
show_places-requires-clause-places g c =
    let comp = c.args.comp.now in
    let long : length c.as_mut_slice-3.result.now ≡ length comp.fields = ap length c.as_mut_slice-3.ensures.value ∙ c.requires.local.shown in
    subst (λ (places : List ℕ). All (λ k. k < length c.as_mut_slice-3.result.now) places) (sym (c.items-5.ensures ∙ c.requires.local.started))
    (subst (λ n. All (λ k. k < n) (places_started comp.fields)) (sym long) (places-within comp.fields))

pub returns-clause-local : goal.returns-clause-local
returns-clause-local g c =
    let comp = c.args.comp.now in
    let local = c.args.self.now in
    let count : length c.items.result.now ≡ length comp.fields = ap length c.items.ensures in
    let fields = c.start_all.new.fields in
    let shown = c.show_places.new.shown in
    let others = c.start_all.new.others in
    let long : length shown ≡ length local.shown = c.show_places.ensures.number ∙ ap length c.as_mut_slice-3.ensures.value in
    local-left comp local c.requires.local _ _ _ fields shown others c.start_all.new.room
    (back-same local.fields fields (c.start_all.auto.fields ∙ ap length c.as_mut_slice.ensures.value))
    (back-same local.shown shown long)
    (back-same local.spare.fields others (c.start_all.auto.others ∙ ap length c.as_mut_slice-2.ensures.value))
    (subst (λ n. AreFields local.frame n fields) count c.start_all.ensures.fields)
    (subst (λ n. HaveNumbers local.frame n fields) count c.start_all.ensures.numbers)
    (long ∙ c.requires.local.shown)
    (subst (λ n. All (λ values. length values ≡ n) shown)
    (sym (homes-count local.frame local.area.sites c.requires.local.sites)) c.show_places.ensures.count)
    (c.show_places.ensures.values
    (subst (All (All IsValue))
    (sym (c.items-6.ensures ∙ back-same local.fields fields (c.start_all.auto.fields ∙ ap length c.as_mut_slice.ensures.value)))
    c.start_all.ensures.fields.values)
    (subst (All (All IsValue)) (sym c.as_mut_slice-3.ensures.value) c.requires.local.shown_values))
    (subst (λ n. AreOnBlock local.frame n others) (ap length c.as_mut_slice-2.ensures.value) c.start_all.ensures.others)
    c.start_all.ensures.room

pub returns-clause-after : goal.returns-clause-after
returns-clause-after g c = λ world stands arrived.
    let comp = c.args.comp.now in
    let local = c.args.self.now in
    let frame = local.frame in
    let timing = timing_of c.args.times in
    let entries = answers_of (entries_of c.args.book.now) in
    let reading : Reading = reading_of timing entries comp world.fields (pos 0) (pos 0) in
    let fields = c.start_all.new.fields in
    let shown = c.show_places.new.shown in
    let cells = length local.area.sites.homes.items in
    let number : length c.items.result.now ≡ length comp.fields = ap length c.items.ensures in
    let Holds : List (List ℤ) → Type 0 = HoldFields frame (length c.items.result.now) world.fields in
    let hold : Holds c.as_mut_slice.result.now =
    subst Holds (sym c.as_mut_slice.ensures.value) (subst (λ n. HoldFields frame n world.fields local.fields) (sym number) stands.values) in
    let Arrives : List (List ℤ) → Type 0 = HaveArrived frame c.items-2.result.now world.fields in
    let come : Arrives c.as_mut_slice.result.now =
    subst Arrives (sym c.as_mut_slice.ensures.value)
    (subst (λ (halo : List ℕ). HaveArrived frame halo world.fields local.fields) (sym c.items-2.ensures) arrived) in
    let made = c.start_all.ensures.written reading world.fields
    (record {
      timing = ap timing_of (sym c.moment_at.ensures.times);
      at = sym c.moment_at.ensures.at;
      dt = sym c.moment_at.ensures.dt;
      over = sym c.requires.local.over;
    })
    refl refl hold come in
    let after = fields_started reading world.fields comp.fields in
    let After : List (List ℤ) → Type 0 = HoldFields frame (length comp.fields) after in
    let held : After fields =
    subst (λ n. HoldFields frame n after fields) number
    (subst (λ (described : List Field). HoldFields frame (length c.items.result.now) (fields_started reading world.fields described) fields)
    c.items-3.ensures made) in
    let left = back-same local.fields fields (c.start_all.auto.fields ∙ ap length c.as_mut_slice.ensures.value) in
    let long : length shown ≡ length local.shown = c.show_places.ensures.number ∙ ap length c.as_mut_slice-3.ensures.value in
    let lined : AreShownFor frame cells local.started fields local.shown shown =
    subst (λ (places : List ℕ). AreShownFor frame cells places fields local.shown shown) c.items-5.ensures
    (subst (λ (now : List (List ℤ)). AreShownFor frame cells c.items-5.result.now now local.shown shown) (c.items-6.ensures ∙ left)
    (subst (λ (old : List (List ℤ)). AreShownFor frame cells c.items-5.result.now c.items-6.result.now old shown)
    c.as_mut_slice-3.ensures.value c.show_places.ensures)) in
    let Lined : List (List ℤ) → Type 0 = λ now.
    (k : ℕ) → k < length comp.fields → field_at now k ≡ block_values frame (world_at after k) in
    record {
      marks = marks-started timing entries comp world local.marks stands.marks;
      values = subst After (sym left) held;
      kept = stand-started frame (length comp.fields) reading comp.fields world.fields local.accums stands.kept;
      shown = subst Lined (sym (back-same local.shown shown long))
          (shown-started frame cells (length comp.fields) reading comp.fields local.started world.fields fields local.shown shown
          c.requires.local.started lined c.requires.local.shown held stands.shown);
    }

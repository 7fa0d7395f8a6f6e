use Rattle.std.proofs.Common.{◌∙◌, ap, get_or, refl, subst, sym, to_z-of_z, SFits, w64, rules}
use Rattle.std.specs.Prelude.{◌≡◌, ◌<◌, ◌≤◌, All, List, Option, ℕ, ℤ, length}
use Rattle.cpl_comp.proofs.MarkFacts.{stamps-fields_after}
use Rattle.cpl_comp.specs.Marks.{CompMarks}
use Rattle.cpl_comp.specs.Turns.{reading_of}
use Rattle.cpl_comp.specs.Worlds.{field_at as world_at}
use Rattle.cpl_comp.specs.Writes.{fields_after}
use Rattle.cpl_comp.specs.declared.component.MergeRow.{MergeRow}
use Rattle.cpl_comp.specs.declared.component.Phase.{Phase}
use Rattle.cpl_comp.specs.declared.component.SetRow.{SetRow}
use Rattle.cpl_entry.specs.Books.{entries_of}
use Rattle.cpl_mediator.specs.Averages.{no_sums}
use Rattle.cpl_phase.proofs.AcceptedFacts.{adds-below, averages-below, member-is, merges-below, phase-on, phase-roomy, sets-below}
use Rattle.cpl_phase.proofs.ListFacts.{homes-count, read-member, same-member}
use Rattle.cpl_phase.proofs.RunFacts.{added-kept, phase-shown}
use Rattle.cpl_phase.specs.Kept.{AreAccums, StandForKept}
use Rattle.cpl_phase.specs.Refreshed.{AreOnBlock}
use Rattle.cpl_phase.specs.Rooms.{further_fields}
use Rattle.cpl_phase.specs.Starts.{places_started}
use Rattle.cpl_phase.specs.Worlds.{HaveArrived, HoldFields, block_values}
use Rattle.cpl_rule.specs.Assigned.{answers_of}
use Rattle.cpl_rule.specs.Demands.{IsPhaseCovered}
use Rattle.cpl_rule.specs.Inputs.{AreFields, HaveNumbers}
use Rattle.cpl_rule.specs.Moments.{IsAt, timing_of}
use Rattle.cpl_sweep.specs.Places.{field_at}
use Rattle.cpl_phase.proofs.local.LocalComp.carry.Goals as goal

pub carry_phase-requires-clause-phase : goal.carry_phase-requires-clause-phase
carry_phase-requires-clause-phase g c =
    let comp = c.args.comp.now in
    let local = c.requires.local in
    let accepted = c.requires.accepted in
    let stage = c.index-items-phase.result in
    let there = read-member comp.phases c.items.result.now c.args.phase stage c.items.ensures c.index-items-phase.is c.requires.phase in
    let covered = member-is (IsPhaseCovered c.args.self.now.demand) comp.phases c.args.phase stage there local.demand.phases in
    phase-on accepted.limits comp accepted.is stage c.args.phase there c.args.self.now.demand covered
    (record { frame = c.args.self.now.frame; fields = length c.items-2.result.now; moment = c.moment_at.result }) (entries_of c.args.book.now)
    local.rx local.ry (ap length c.items-2.ensures)
    (accepted.alarm_count ∙ sym (ap (λ times. length times.alarms.now) c.moment_at.ensures.times)) accepted.inputs

pub carry_phase-requires-clause-room : goal.carry_phase-requires-clause-room
carry_phase-requires-clause-room g c =
    let comp = c.args.comp.now in
    let local = c.requires.local in
    let accepted = c.requires.accepted in
    let stage = c.index-items-phase.result in
    let there = read-member comp.phases c.items.result.now c.args.phase stage c.items.ensures c.index-items-phase.is c.requires.phase in
    let covered = member-is (IsPhaseCovered c.args.self.now.demand) comp.phases c.args.phase stage there local.demand.phases in
    (phase-roomy accepted.limits comp accepted.is stage c.args.phase there c.args.self.now.demand covered c.args.self.now.spare.room local.met
    local.spare.room).0

pub carry_phase-requires-clause-add_room : goal.carry_phase-requires-clause-add_room
carry_phase-requires-clause-add_room g c =
    let comp = c.args.comp.now in
    let local = c.requires.local in
    let accepted = c.requires.accepted in
    let stage = c.index-items-phase.result in
    let there = read-member comp.phases c.items.result.now c.args.phase stage c.items.ensures c.index-items-phase.is c.requires.phase in
    let covered = member-is (IsPhaseCovered c.args.self.now.demand) comp.phases c.args.phase stage there local.demand.phases in
    (phase-roomy accepted.limits comp accepted.is stage c.args.phase there c.args.self.now.demand covered c.args.self.now.spare.room local.met
    local.spare.room).1

pub carry_phase-requires-clause-sums : goal.carry_phase-requires-clause-sums
carry_phase-requires-clause-sums g c = λ j d below.
    let comp = c.args.comp.now in
    let local = c.requires.local in
    let accepted = c.requires.accepted in
    let stage = c.index-items-phase.result in
    let there = read-member comp.phases c.items.result.now c.args.phase stage c.items.ensures c.index-items-phase.is c.requires.phase in
    local.sums _ (adds-below accepted.limits comp accepted.is stage c.args.phase there j d below) (added-kept comp c.args.phase stage there j d below)
    ∙ homes-count c.args.self.now.frame c.args.self.now.area.sites local.sites

pub carry_phase-requires-clause-counts : goal.carry_phase-requires-clause-counts
carry_phase-requires-clause-counts g c = λ j d below.
    let comp = c.args.comp.now in
    let local = c.requires.local in
    let accepted = c.requires.accepted in
    let stage = c.index-items-phase.result in
    let there = read-member comp.phases c.items.result.now c.args.phase stage c.items.ensures c.index-items-phase.is c.requires.phase in
    let k = (get_or stage.adds j d).field in
    c.requires.young.kept k (no_sums 0)
    (subst (λ n. k < n) (sym local.accums.number) (adds-below accepted.limits comp accepted.is stage c.args.phase there j d below))

pub carry_phase-requires-clause-count : goal.carry_phase-requires-clause-count
carry_phase-requires-clause-count g c =
    let comp = c.args.comp.now in
    let stage = c.index-items-phase.result in
    let there = read-member comp.phases c.items.result.now c.args.phase stage c.items.ensures c.index-items-phase.is c.requires.phase in
    member-is (λ (phase : Phase). further_fields phase ≤ length c.args.self.now.spare.fields) comp.phases c.args.phase stage there
    c.requires.local.spare.phases

pub show_phase-requires-clause-shown : goal.show_phase-requires-clause-shown
show_phase-requires-clause-shown g c =
    subst (λ n. All (λ (values : List ℤ). length values ≡ n) c.args.self.now.shown)
    (homes-count c.args.self.now.frame c.args.self.now.area.sites c.requires.local.sites) c.requires.local.shown_cells

pub show_phase-requires-clause-sets : goal.show_phase-requires-clause-sets
show_phase-requires-clause-sets g c =
    let comp = c.args.comp.now in
    let accepted = c.requires.accepted in
    let stage = c.index-items-phase.result in
    let there = read-member comp.phases c.items.result.now c.args.phase stage c.items.ensures c.index-items-phase.is c.requires.phase in
    subst (λ n. All (λ (row : SetRow). row.field < n) stage.sets) (sym c.requires.local.shown)
    (sets-below accepted.limits comp accepted.is stage c.args.phase there)

pub show_phase-requires-clause-merges : goal.show_phase-requires-clause-merges
show_phase-requires-clause-merges g c =
    let comp = c.args.comp.now in
    let accepted = c.requires.accepted in
    let stage = c.index-items-phase.result in
    let there = read-member comp.phases c.items.result.now c.args.phase stage c.items.ensures c.index-items-phase.is c.requires.phase in
    subst (λ n. All (λ (row : MergeRow). row.field < n) stage.merges) (sym c.requires.local.shown)
    (merges-below accepted.limits comp accepted.is stage c.args.phase there)

pub show_phase-requires-clause-averages : goal.show_phase-requires-clause-averages
show_phase-requires-clause-averages g c =
    let comp = c.args.comp.now in
    let accepted = c.requires.accepted in
    let stage = c.index-items-phase.result in
    let there = read-member comp.phases c.items.result.now c.args.phase stage c.items.ensures c.index-items-phase.is c.requires.phase in
    subst (λ n. All (λ k. k < n) stage.averages) (sym c.requires.local.shown)
    (averages-below accepted.limits comp accepted.is stage c.args.phase there)

pub returns-clause-local : goal.returns-clause-local
returns-clause-local g c =
    let comp = c.args.comp.now in
    let local = c.requires.local in
    let self = c.args.self.now in
    let frame = self.frame in
    let count = length comp.fields in
    let number : length c.items-2.result.now ≡ count = ap length c.items-2.ensures in
    let homes = homes-count frame self.area.sites local.sites in
    let more = c.carry_phase.ensures.others.count in
    let accums = subst (λ n. AreAccums (length self.area.sites.homes.items) n c.carry_phase.new.accums) number c.carry_phase.ensures.accums in
    record {
      frame = local.frame;
      over = local.over;
      demand = local.demand;
      met = local.met;
      rx = local.rx;
      ry = local.ry;
      ring = local.ring;
      sites = local.sites;
      connected = local.connected;
      plans = local.plans;
      exports = local.exports;
      started = local.started;
      stamps = local.stamps;
      fields = subst (λ n. AreFields frame n c.carry_phase.new.fields) number c.carry_phase.ensures.fields;
      numbers = subst (λ n. HaveNumbers frame n c.carry_phase.new.fields) number c.carry_phase.ensures.numbers;
      accums = subst (λ n. AreAccums n count c.carry_phase.new.accums) (sym homes) accums;
      sums = λ k below kept. c.carry_phase.ensures.sums k ∙ local.sums k below kept;
      shown = c.show_phase.ensures.number ∙ local.shown;
      shown_cells = subst (λ n. All (λ (values : List ℤ). length values ≡ n) c.show_phase.new.shown) (sym homes) c.show_phase.ensures.count;
      shown_values = c.show_phase.ensures.values c.carry_phase.ensures.fields.values local.shown_values;
      spare = record {
        fields = subst (λ n. AreOnBlock frame n c.carry_phase.new.spare.fields) (sym more) c.carry_phase.ensures.others;
        phases = subst (λ n. All (λ (phase : Phase). further_fields phase ≤ n) comp.phases) (sym more) local.spare.phases;
        starts = subst (λ n. length (places_started comp.fields) ≤ n) (sym more) local.spare.starts;
        cells = c.carry_phase.ensures.cells ∙ local.spare.cells;
        room = record {
          places = c.carry_phase.ensures.room.places ∙ local.spare.room.places;
          inputs = c.carry_phase.ensures.room.inputs ∙ local.spare.room.inputs;
          scratch = c.carry_phase.ensures.room.scratch ∙ local.spare.room.scratch;
        };
      };
    }

pub returns-clause-after : goal.returns-clause-after
returns-clause-after g c = λ stage world there stands arrived.
    let comp = c.args.comp.now in
    let self = c.args.self.now in
    let frame = self.frame in
    let count = length comp.fields in
    let number : length c.items-2.result.now ≡ count = ap length c.items-2.ensures in
    let read = c.index-items-phase.result in
    let read_there = read-member comp.phases c.items.result.now c.args.phase read c.items.ensures c.index-items-phase.is c.requires.phase in
    let same : read ≡ stage = same-member comp.phases c.args.phase read stage read_there there in
    let timing = timing_of c.args.times in
    let entries = answers_of (entries_of c.args.book.now) in
    let reading = reading_of timing entries comp world.fields c.args.turn.now.at c.args.turn.now.substep in
    let news = c.carry_phase.new.fields in
    let near : HaveArrived frame read.halo.fields world.fields self.fields =
    subst (λ (s : Phase). HaveArrived frame s.halo.fields world.fields self.fields) (sym same) arrived in
    let fits_at : SFits w64 c.args.turn.now.at = search rules in
    let fits_substep : SFits w64 c.args.turn.now.substep = search rules in
    let at : IsAt c.moment_at.result frame.grid reading = record {
      timing = ap timing_of (sym c.moment_at.ensures.times);
      at = sym (c.moment_at.ensures.at ∙ to_z-of_z fits_at);
      dt = sym (c.moment_at.ensures.dt ∙ to_z-of_z fits_substep);
      over = sym c.requires.local.over;
    } in
    let after = c.carry_phase.ensures.after reading world.fields at refl refl
    (subst (λ n. HoldFields frame n world.fields self.fields) (sym number) stands.values) near
    (subst (λ n. StandForKept frame n world.fields self.accums) (sym number) stands.kept) in
    let held = subst (λ n. HoldFields frame n (fields_after reading world.fields read) news) number after.fields in
    let kept = subst (λ n. StandForKept frame n (fields_after reading world.fields read) c.carry_phase.new.accums) number after.kept in
    let shown = phase-shown frame count (length self.area.sites.homes.items) reading world.fields read news self.shown c.show_phase.new.shown
    held c.show_phase.ensures c.requires.local.shown stands.shown in
    let marks : List (Option ℤ) → CompMarks = λ stamps. record { clock = world.clock; runs = world.runs; stamps = stamps } in
    record {
      marks = ap marks (stamps-fields_after reading world.fields stage) ∙ stands.marks;
      values = subst (λ (s : Phase). HoldFields frame count (fields_after reading world.fields s) news) same held;
      kept = subst (λ (s : Phase). StandForKept frame count (fields_after reading world.fields s) c.carry_phase.new.accums) same kept;
      shown = subst (λ (s : Phase). (k : ℕ) → k < count
          → field_at c.show_phase.new.shown k ≡ block_values frame (world_at (fields_after reading world.fields s) k)) same shown;
    }

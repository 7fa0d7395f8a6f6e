use Rattle.std.proofs.Common.{◌≡◌, ◌∙◌, ◌+◌, ◌<◌, ◌≤◌, ℕ, List, ℤ, ap, arith, length, map, pos, subst, sym}
use Rattle.std.proofs.lemmas.List.Elements.{All-map}
use Rattle.std.proofs.lemmas.Simd.{map-map}
use Rattle.std.specs.List.{All}
use Rattle.cpl_block.specs.Frames.{IsOwn, places_in}
use Rattle.cpl_comp.specs.Readings.{whole}
use Rattle.cpl_comp.specs.Writes.{Write, all_written, set_write}
use Rattle.cpl_comp.specs.declared.component.Rule.{Rule}
use Rattle.cpl_comp.specs.declared.component.SetRow.{SetRow}
use Rattle.cpl_entry.specs.Books.{entries_of}
use Rattle.cpl_grid.specs.Grid.{column_of, row_of}
use Rattle.cpl_rule.specs.Inputs.{AreFields, HaveNumbers, IsHaloed, arguments_of}
use Rattle.cpl_sweep.specs.Places.{field_at}
use Rattle.cpl_phase.specs.Starts.{rows_started}
use Rattle.cpl_phase.specs.Worlds.{HoldFields}
use Rattle.cpl_phase.proofs.HeldFacts.{hold-refilled, reading-refilled}
use Rattle.cpl_phase.proofs.PhaseFacts.{IsGroup, put-group}
use Rattle.cpl_phase.proofs.PutFacts.{on-block-put, put-other}
use Rattle.cpl_phase.proofs.StartFacts.{fields-started, length-started, places-within, rows-each, rows-within, writes-from}
use Rattle.cpl_phase.proofs.WrittenFacts.{sets-written}
use Rattle.cpl_phase.proofs.starting.start_all.Goals as goal

pub put_places-requires-clause-places : goal.put_places-requires-clause-places
put_places-requires-clause-places g c = λ k d inside.
    let P : List ℕ → Type 0 = All (λ k. k < length c.args.described.now) in
    let below = subst P (sym c.requires.started) (places-within c.args.described.now) k d inside in
    omega (arith, below, c.requires.described, c.refresh.ensures.fields.count, c.requires.fields.number)

pub returns-clause-written : goal.returns-clause-written
returns-clause-written g c = λ reading world at entries same hold arrived.
    let scene = c.args.scene.now in
    let frame = scene.frame in
    let count = scene.fields in
    let halo = c.args.halo.now in
    let described = c.args.described.now in
    let started = c.args.started.now in
    let rows = rows_started described in
    let old = c.args.fields.now in
    let now = c.refresh.new.fields in
    let others = c.assign_started.new.others in
    let laws = c.frame_laws.ensures in
    let filled = c.refresh.ensures.filled in
    let numbers : HaveNumbers frame count now = record {
      columns = filled.own count (λ s. whole (pos (column_of frame.grid s))) c.requires.numbers.columns;
      rows = filled.own (count + 1) (λ s. whole (pos (row_of frame.grid s))) c.requires.numbers.rows;
      cells = filled.own (count + 2) (λ s. whole (pos s)) c.requires.numbers.cells;
    } in
    let held = reading-refilled frame count halo world old now laws filled c.requires.halo hold reading same arrived numbers in
    let still = hold-refilled frame count halo world old now laws filled c.requires.halo hold in
    let listed = ap length c.requires.started in
    let many : length rows ≤ length others = omega (arith, listed, length-started described, c.requires.count, c.assign_started.auto.others) in
    let Haloed : Rule → Type 0 = λ rule. All (IsHaloed halo) (arguments_of rule) in
    let made = sets-written scene (entries_of c.args.book.now) halo reading now laws at entries held rows others many
    (rows-each Haloed described c.requires.haloed) c.assign_started.ensures.values in
    let all : length now ≡ length old = c.refresh.ensures.fields.count in
    let long : count ≤ length now = omega (arith, all, c.requires.fields.number) in
    let Below : Write → Type 0 = λ write. write.field < count in
    let N : ℕ → Type 0 = λ n. All (λ (row : SetRow). row.field < n) rows in
    let writes = map (set_write reading) rows in
    let group : IsGroup frame count writes started others = record {
      fields = map-map (λ (write : Write). write.field) (set_write reading) rows ∙ fields-started described ∙ sym c.requires.started;
      below = All-map Below (set_write reading) rows (subst N c.requires.described (rows-within described));
      written = made;
    } in
    let W : List Write → Type 0 = λ ws. HoldFields frame count (all_written world ws) c.put_places.new.fields in
    let P : List (List ℤ) → Type 0 = HoldFields frame count (all_written world writes) in
    subst W (writes-from reading 0 described)
    (subst P (sym c.put_places.ensures.fields) (put-group frame count laws writes started others world now group long still))

pub returns-clause-fields : goal.returns-clause-fields
returns-clause-fields g c =
    let scene = c.args.scene.now in
    let P : List (List ℤ) → Type 0 = AreFields scene.frame scene.fields in
    let on = on-block-put scene.frame (length c.args.others.now) (length c.args.fields.now) c.args.started.now c.assign_started.new.others
    c.refresh.new.fields c.assign_started.ensures.others c.refresh.ensures.fields in
    subst P (sym c.put_places.ensures.fields) (record { number = on.count ∙ c.requires.fields.number; places = on.places; values = on.values })

pub returns-clause-numbers : goal.returns-clause-numbers
returns-clause-numbers g c =
    let scene = c.args.scene.now in
    let frame = scene.frame in
    let count = scene.fields in
    let now = c.refresh.new.fields in
    let filled = c.refresh.ensures.filled in
    let Below : List ℕ → Type 0 = All (λ target. target < count) in
    let N : ℕ → Type 0 = λ n. All (λ k. k < n) c.args.started.now in
    let Places : List ℕ → Type 0 = All (λ k. k < length c.args.described.now) in
    let below : Below c.args.started.now =
    subst N c.requires.described (subst Places (sym c.requires.started) (places-within c.args.described.now)) in
    let stays : (k : ℕ) → count ≤ k → field_at now k ≡ field_at c.put_places.new.fields k = λ k past.
    sym (put-other count k c.args.started.now c.assign_started.new.others now below past)
    ∙ ap (λ fields. field_at fields k) (sym c.put_places.ensures.fields) in
    let C : List ℤ → Type 0 = IsOwn frame (λ s. whole (pos (column_of frame.grid s))) in
    let R : List ℤ → Type 0 = IsOwn frame (λ s. whole (pos (row_of frame.grid s))) in
    let S : List ℤ → Type 0 = IsOwn frame (λ s. whole (pos s)) in
    record {
      columns = subst C (stays count (omega arith)) (filled.own count (λ s. whole (pos (column_of frame.grid s))) c.requires.numbers.columns);
      rows = subst R (stays (count + 1) (omega arith)) (filled.own (count + 1) (λ s. whole (pos (row_of frame.grid s))) c.requires.numbers.rows);
      cells = subst S (stays (count + 2) (omega arith)) (filled.own (count + 2) (λ s. whole (pos s)) c.requires.numbers.cells);
    }

pub returns-clause-others : goal.returns-clause-others
returns-clause-others g c =
    let frame = c.args.scene.now.frame in
    let back = c.put_places.ensures.others in
    record {
      count = c.put_places.auto.others ∙ c.assign_started.ensures.others.count;
      places = back.places (places_in frame) c.refresh.ensures.fields.places c.assign_started.ensures.others.places;
      values = back.values c.refresh.ensures.fields.values c.assign_started.ensures.others.values;
    }

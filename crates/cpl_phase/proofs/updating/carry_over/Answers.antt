use Rattle.std.proofs.Common.{◌≡◌, ◌∙◌, ◌+◌, ◌<◌, ◌≤◌, ℕ, List, ℤ, ap, arith, length, map, pos, subst, sym}
use Rattle.std.proofs.lemmas.List.Elements.{All-map}
use Rattle.std.proofs.lemmas.Simd.{map-map}
use Rattle.std.specs.List.{All}
use Rattle.cpl_block.specs.Frames.{IsOwn, places_in}
use Rattle.cpl_comp.specs.Readings.{whole}
use Rattle.cpl_comp.specs.Writes.{Write, all_written, average_write, merge_write, phase_writes, set_write}
use Rattle.cpl_comp.specs.declared.component.MergeRow.{MergeRow}
use Rattle.cpl_comp.specs.declared.component.SetRow.{SetRow}
use Rattle.cpl_grid.specs.Grid.{column_of, row_of}
use Rattle.cpl_sweep.specs.Places.{field_at}
use Rattle.cpl_rule.specs.Inputs.{AreFields, HaveNumbers}
use Rattle.cpl_phase.specs.Puts.{all_put}
use Rattle.cpl_phase.specs.Refreshed.{AreOnBlock, AreRefilled}
use Rattle.cpl_phase.specs.Worlds.{HoldFields}
use Rattle.cpl_phase.proofs.HeldFacts.{hold-refilled, reading-refilled}
use Rattle.cpl_phase.proofs.KeptWritten.{stand-written}
use Rattle.cpl_phase.proofs.PhaseFacts.{IsGroup, average-fields, hold-kept, put-groups}
use Rattle.cpl_phase.proofs.PutFacts.{on-block-put, put-other}
use Rattle.cpl_phase.proofs.updating.carry_over.Goals as goal

pub returns-clause-after : goal.returns-clause-after
returns-clause-after g c = λ reading world at entries same hold arrived kept.
    let put_averages : c.put_places.new.fields ≡ all_put c.args.phase.now.averages c.work_out.new.averaged c.refresh.new.fields =
    c.put_places.ensures.fields ∙ ap (λ ks. all_put ks c.work_out.new.averaged c.refresh.new.fields) c.items-averages.ensures in
    let put_sets : c.put_sets.new.fields ≡ all_put
    (map (λ (row : SetRow). row.field) c.args.phase.now.sets) c.work_out.new.assigned c.put_places.new.fields =
    c.put_sets.ensures.fields
    ∙ ap (λ rows. all_put (map (λ (row : SetRow). row.field) rows) c.work_out.new.assigned c.put_places.new.fields) c.items-sets.ensures in
    let put_merges : c.put_merges.new.fields ≡ all_put
    (map (λ (row : MergeRow). row.field) c.args.phase.now.merges) c.work_out.new.merged c.put_sets.new.fields =
    c.put_merges.ensures.fields
    ∙ ap (λ rows. all_put (map (λ (row : MergeRow). row.field) rows) c.work_out.new.merged c.put_sets.new.fields) c.items-merges.ensures in
    let scene = c.args.scene.now in
    let frame = scene.frame in
    let count = scene.fields in
    let phase = c.args.phase.now in
    let halo = phase.halo.fields in
    let old = c.args.fields.now in
    let now = c.refresh.new.fields in
    let averaged = c.work_out.new.averaged in
    let assigned = c.work_out.new.assigned in
    let merged = c.work_out.new.merged in
    let laws = c.frame_laws.ensures in
    let Filled : List ℕ → Type 0 = λ halo. AreRefilled c.args.scene.now.frame halo c.args.fields.now c.refresh.new.fields in
    let filled = subst Filled c.items-halo.ensures c.refresh.ensures.filled in
    let numbers : HaveNumbers frame count now = record {
      columns = filled.own count (λ s. whole (pos (column_of frame.grid s))) c.requires.numbers.columns;
      rows = filled.own (count + 1) (λ s. whole (pos (row_of frame.grid s))) c.requires.numbers.rows;
      cells = filled.own (count + 2) (λ s. whole (pos s)) c.requires.numbers.cells;
    } in
    let held = reading-refilled frame count halo world old now laws filled c.requires.phase.halo hold reading same arrived numbers in
    let still = hold-refilled frame count halo world old now laws filled c.requires.phase.halo hold in
    let news = c.work_out.ensures.news reading world at entries held still kept in
    let all : length now ≡ length old = c.refresh.ensures.fields.count in
    let long : count ≤ length now = omega (arith, all, c.requires.fields.number) in
    let Below : Write → Type 0 = λ write. write.field < count in
    let writes = phase_writes reading world phase in
    let after = all_written world writes in
    let ka = phase.averages in
    let ks = map (λ (row : SetRow). row.field) phase.sets in
    let km = map (λ (row : MergeRow). row.field) phase.merges in
    let a = map (average_write reading.layout world) ka in
    let s = map (set_write reading) phase.sets in
    let m = map (merge_write reading) phase.merges in
    let group_a : IsGroup frame count a ka averaged = record {
      fields = average-fields reading.layout world ka;
      below = All-map Below (average_write reading.layout world) ka c.requires.phase.averages;
      written = news.averages;
    } in
    let group_s : IsGroup frame count s ks assigned = record {
      fields = map-map (λ (write : Write). write.field) (set_write reading) phase.sets;
      below = All-map Below (set_write reading) phase.sets c.requires.phase.set_targets;
      written = news.sets;
    } in
    let group_m : IsGroup frame count m km merged = record {
      fields = map-map (λ (write : Write). write.field) (merge_write reading) phase.merges;
      below = All-map Below (merge_write reading) phase.merges c.requires.phase.merge_targets;
      written = news.merges;
    } in
    let put : all_put km merged (all_put ks assigned (all_put ka averaged now)) ≡ c.put_merges.new.fields =
    ap (λ fields. all_put km merged (all_put ks assigned fields)) (sym put_averages)
    ∙ ap (all_put km merged) (sym put_sets)
    ∙ sym put_merges in
    let Last : List (List ℤ) → Type 0 = HoldFields frame count after in
    record {
      fields = hold-kept frame count reading ka phase.adds after c.put_merges.new.fields
          (subst Last put (put-groups frame count laws a s m ka ks km averaged assigned merged world now group_a group_s group_m long still));
      kept = c.work_out.ensures.kept reading after at entries held (stand-written frame count writes world c.args.accums.now kept);
    }

pub returns-clause-fields : goal.returns-clause-fields
returns-clause-fields g c =
    let put_averages : c.put_places.new.fields ≡ all_put c.args.phase.now.averages c.work_out.new.averaged c.refresh.new.fields =
    c.put_places.ensures.fields ∙ ap (λ ks. all_put ks c.work_out.new.averaged c.refresh.new.fields) c.items-averages.ensures in
    let put_sets : c.put_sets.new.fields ≡ all_put
    (map (λ (row : SetRow). row.field) c.args.phase.now.sets) c.work_out.new.assigned c.put_places.new.fields =
    c.put_sets.ensures.fields
    ∙ ap (λ rows. all_put (map (λ (row : SetRow). row.field) rows) c.work_out.new.assigned c.put_places.new.fields) c.items-sets.ensures in
    let put_merges : c.put_merges.new.fields ≡ all_put
    (map (λ (row : MergeRow). row.field) c.args.phase.now.merges) c.work_out.new.merged c.put_sets.new.fields =
    c.put_merges.ensures.fields
    ∙ ap (λ rows. all_put (map (λ (row : MergeRow). row.field) rows) c.work_out.new.merged c.put_sets.new.fields) c.items-merges.ensures in
    let scene = c.args.scene.now in
    let frame = scene.frame in
    let n = length c.args.fields.now in
    let phase = c.args.phase.now in
    let now = c.refresh.new.fields in
    let P : List (List ℤ) → Type 0 = AreFields frame scene.fields in
    let Q : List (List ℤ) → Type 0 = AreOnBlock frame n in
    let first : AreOnBlock frame n c.put_places.new.fields = subst Q (sym put_averages)
    (on-block-put frame (length c.args.averaged.now) n phase.averages c.work_out.new.averaged now c.work_out.ensures.averaged
    c.refresh.ensures.fields) in
    let second : AreOnBlock frame n c.put_sets.new.fields = subst Q (sym put_sets)
    (on-block-put frame (length c.args.assigned.now) n
    (map (λ (row : SetRow). row.field) phase.sets) c.work_out.new.assigned c.put_places.new.fields c.work_out.ensures.assigned first) in
    let on = on-block-put frame (length c.args.merged.now) n
    (map (λ (row : MergeRow). row.field) phase.merges) c.work_out.new.merged c.put_sets.new.fields c.work_out.ensures.merged second in
    subst P (sym put_merges) (record { number = on.count ∙ c.requires.fields.number; places = on.places; values = on.values })

pub returns-clause-numbers : goal.returns-clause-numbers
returns-clause-numbers g c =
    let put_averages : c.put_places.new.fields ≡ all_put c.args.phase.now.averages c.work_out.new.averaged c.refresh.new.fields =
    c.put_places.ensures.fields ∙ ap (λ ks. all_put ks c.work_out.new.averaged c.refresh.new.fields) c.items-averages.ensures in
    let put_sets : c.put_sets.new.fields ≡ all_put
    (map (λ (row : SetRow). row.field) c.args.phase.now.sets) c.work_out.new.assigned c.put_places.new.fields =
    c.put_sets.ensures.fields
    ∙ ap (λ rows. all_put (map (λ (row : SetRow). row.field) rows) c.work_out.new.assigned c.put_places.new.fields) c.items-sets.ensures in
    let put_merges : c.put_merges.new.fields ≡ all_put
    (map (λ (row : MergeRow). row.field) c.args.phase.now.merges) c.work_out.new.merged c.put_sets.new.fields =
    c.put_merges.ensures.fields
    ∙ ap (λ rows. all_put (map (λ (row : MergeRow). row.field) rows) c.work_out.new.merged c.put_sets.new.fields) c.items-merges.ensures in
    let scene = c.args.scene.now in
    let frame = scene.frame in
    let count = scene.fields in
    let phase = c.args.phase.now in
    let now = c.refresh.new.fields in
    let Filled : List ℕ → Type 0 = λ halo. AreRefilled c.args.scene.now.frame halo c.args.fields.now c.refresh.new.fields in
    let filled = subst Filled c.items-halo.ensures c.refresh.ensures.filled in
    let set_targets = map (λ (row : SetRow). row.field) phase.sets in
    let merge_targets = map (λ (row : MergeRow). row.field) phase.merges in
    let Below : ℕ → Type 0 = λ target. target < count in
    let set_below : All Below set_targets = All-map Below (λ (row : SetRow). row.field) phase.sets c.requires.phase.set_targets in
    let merge_below : All Below merge_targets = All-map Below (λ (row : MergeRow). row.field) phase.merges c.requires.phase.merge_targets in
    let stays : (k : ℕ) → count ≤ k → field_at now k ≡ field_at c.put_merges.new.fields k = λ k past.
    sym (put-other count k phase.averages c.work_out.new.averaged now c.requires.phase.averages past)
    ∙ ap (λ fields. field_at fields k) (sym put_averages)
    ∙ sym (put-other count k set_targets c.work_out.new.assigned c.put_places.new.fields set_below past)
    ∙ ap (λ fields. field_at fields k) (sym put_sets)
    ∙ sym (put-other count k merge_targets c.work_out.new.merged c.put_sets.new.fields merge_below past)
    ∙ ap (λ fields. field_at fields k) (sym put_merges) in
    let C : List ℤ → Type 0 = IsOwn frame (λ s. whole (pos (column_of frame.grid s))) in
    let R : List ℤ → Type 0 = IsOwn frame (λ s. whole (pos (row_of frame.grid s))) in
    let S : List ℤ → Type 0 = IsOwn frame (λ s. whole (pos s)) in
    record {
      columns = subst C (stays count (omega arith)) (filled.own count (λ s. whole (pos (column_of frame.grid s))) c.requires.numbers.columns);
      rows = subst R (stays (count + 1) (omega arith)) (filled.own (count + 1) (λ s. whole (pos (row_of frame.grid s))) c.requires.numbers.rows);
      cells = subst S (stays (count + 2) (omega arith)) (filled.own (count + 2) (λ s. whole (pos s)) c.requires.numbers.cells);
    }

pub returns-clause-averaged : goal.returns-clause-averaged
returns-clause-averaged g c =
    let frame = c.args.scene.now.frame in
    let back = c.put_places.ensures.others in
    record {
      count = c.put_places.auto.others ∙ c.work_out.ensures.averaged.count;
      places = back.places (places_in frame) c.refresh.ensures.fields.places c.work_out.ensures.averaged.places;
      values = back.values c.refresh.ensures.fields.values c.work_out.ensures.averaged.values;
    }

pub returns-clause-assigned : goal.returns-clause-assigned
returns-clause-assigned g c =
    let put_averages : c.put_places.new.fields ≡ all_put c.args.phase.now.averages c.work_out.new.averaged c.refresh.new.fields =
    c.put_places.ensures.fields ∙ ap (λ ks. all_put ks c.work_out.new.averaged c.refresh.new.fields) c.items-averages.ensures in
    let frame = c.args.scene.now.frame in
    let n = length c.args.fields.now in
    let Q : List (List ℤ) → Type 0 = AreOnBlock frame n in
    let first : AreOnBlock frame n c.put_places.new.fields = subst Q (sym put_averages)
    (on-block-put frame (length c.args.averaged.now) n c.args.phase.now.averages c.work_out.new.averaged c.refresh.new.fields
    c.work_out.ensures.averaged c.refresh.ensures.fields) in
    let back = c.put_sets.ensures.others in
    record {
      count = c.put_sets.auto.others ∙ c.work_out.ensures.assigned.count;
      places = back.places (places_in frame) first.places c.work_out.ensures.assigned.places;
      values = back.values first.values c.work_out.ensures.assigned.values;
    }

pub returns-clause-merged : goal.returns-clause-merged
returns-clause-merged g c =
    let put_averages : c.put_places.new.fields ≡ all_put c.args.phase.now.averages c.work_out.new.averaged c.refresh.new.fields =
    c.put_places.ensures.fields ∙ ap (λ ks. all_put ks c.work_out.new.averaged c.refresh.new.fields) c.items-averages.ensures in
    let put_sets : c.put_sets.new.fields ≡ all_put
    (map (λ (row : SetRow). row.field) c.args.phase.now.sets) c.work_out.new.assigned c.put_places.new.fields =
    c.put_sets.ensures.fields
    ∙ ap (λ rows. all_put (map (λ (row : SetRow). row.field) rows) c.work_out.new.assigned c.put_places.new.fields) c.items-sets.ensures in
    let frame = c.args.scene.now.frame in
    let n = length c.args.fields.now in
    let phase = c.args.phase.now in
    let Q : List (List ℤ) → Type 0 = AreOnBlock frame n in
    let first : AreOnBlock frame n c.put_places.new.fields = subst Q (sym put_averages)
    (on-block-put frame (length c.args.averaged.now) n phase.averages c.work_out.new.averaged c.refresh.new.fields c.work_out.ensures.averaged
    c.refresh.ensures.fields) in
    let second : AreOnBlock frame n c.put_sets.new.fields = subst Q (sym put_sets)
    (on-block-put frame (length c.args.assigned.now) n
    (map (λ (row : SetRow). row.field) phase.sets) c.work_out.new.assigned c.put_places.new.fields c.work_out.ensures.assigned first) in
    let back = c.put_merges.ensures.others in
    record {
      count = c.put_merges.auto.others ∙ c.work_out.ensures.merged.count;
      places = back.places (places_in frame) second.places c.work_out.ensures.merged.places;
      values = back.values second.values c.work_out.ensures.merged.values;
    }

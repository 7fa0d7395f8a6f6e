use Rattle.std.proofs.Common.{◌≡◌, ◌≢◌, ◌∙◌, ◌+◌, ◌^◌, ◌++◌, ◌<◌, ◌≤◌, [], ◌∷◌, ℕ, List, ℤ, ap, arith, fold, get_or, length, map, set, subst, sym, take}
use Rattle.std.proofs.lemmas.List.{get_or-map, get_or-set_other, get_or_default, length-map, take_all}
use Rattle.std.proofs.lemmas.List.Elements.{All-set}
use Rattle.std.specs.List.{All}
use Rattle.std.specs.Prelude.{slice_index}
use Rattle.cpl_block.specs.Frames.{values_in}
use Rattle.cpl_comp.specs.Readings.{rule_value, rule_values}
use Rattle.cpl_comp.specs.Worlds.{FieldWorld, cell_value, over_cells}
use Rattle.cpl_comp.specs.Writes.{kept_more}
use Rattle.cpl_comp.specs.declared.component.SetRow.{SetRow}
use Rattle.cpl_entry.specs.Books.{entries_of}
use Rattle.cpl_rule.specs.Assigned.{IsRuleOn}
use Rattle.cpl_mediator.specs.Averages.{RunningSums, StandsFor, no_sums}
use Rattle.cpl_rule.specs.Inputs.{IsHaloed, arguments_of}
use Rattle.cpl_phase.specs.Keeping.{IsAccumOf, values_of_block}
use Rattle.cpl_phase.specs.Kept.{StandForKept, accum_at}
use Rattle.cpl_phase.proofs.KeptFacts.{fold-more, kept-one, sums-set}
use Rattle.cpl_phase.proofs.WrittenFacts.{own-over}
use Rattle.cpl_phase.proofs.keeping_all.keep_all.Goals as goal

pub loop-j-preserved : goal.loop-j-preserved
loop-j-preserved g c =
    let scene = c.args.scene.now in
    let frame = scene.frame in
    let rows = c.args.rows.now in
    let j = c.loop-j.j in
    let accums = c.loop-j.accums in
    let first = c.args.accums.now in
    let row = c.index-rows-j.result in
    let is = c.index-rows-j.is in
    let k = row.field in
    let new = c.keep.new.accum in
    let further = c.assign.new.out in
    let inside : j < length rows = c.loop-j-test.true in
    let Target : SetRow → Type 0 = λ r. r.field < length first in
    let asked : k < length first = subst Target (sym is) (c.requires.targets j row inside) in
    let there : k < length accums = omega (arith, asked, c.loop-j.auto.accums) in
    let accum_is : accum_at accums k ≡ get_or accums k c.index-accums-k.result = get_or_default accums k (no_sums 0) c.index-accums-k.result there in
    let targets = map (λ (r : SetRow). r.field) rows in
    let here : slice_index targets j ≡ k = get_or-map (λ (r : SetRow). r.field) rows j row 0 inside ∙ ap (λ (r : SetRow). r.field) (sym is) in
    let among : j < length targets = rw length-map inside in
    let before : (i : ℕ) → i < j → slice_index targets i ≢ k = λ i below e. c.requires.once i j 0 below among (e ∙ sym here) in
    let made = c.assign.ensures.value in
    let old_sums : length new.sums ≡ length (accum_at accums k).sums = c.keep.ensures.sums ∙ ap (λ (a : RunningSums). length a.sums) (sym accum_is) in
    let old_count : new.count ≡ (accum_at accums k).count + 1 = c.keep.ensures.count ∙ ap (λ (a : RunningSums). a.count + 1) (sym accum_is) in
    record {
      kept = λ halo reading count world at entries haloed held kept.
          let W : List FieldWorld → Type 0 = λ w. StandForKept frame count w (set accums k new) in
          let Haloed : SetRow → Type 0 = λ r. All (IsHaloed halo) (arguments_of r.rule) in
          let own = own-over frame reading.layout (rule_value reading row.rule) further c.frame_laws.ensures at.over
          (made.own halo reading at entries (subst Haloed (sym is) (haloed j row inside)) held) in
          let values : values_in frame further ≡ values_of_block frame (rule_values reading row.rule) =
          c.frame_laws.ensures.listed (cell_value (over_cells reading.layout (rule_value reading row.rule))) further own in
          let more : (kept : List (List ℤ)) → StandsFor (accum_at accums k) kept
          → StandsFor new (kept ++ values_of_block frame (rule_values reading row.rule) ∷ []) = λ kept stands.
          let V : List ℤ → Type 0 = λ vs. StandsFor new (kept ++ vs ∷ []) in
          let A : RunningSums → Type 0 = λ a. StandsFor a kept in
          subst V values (c.keep.ensures.stands kept (subst A accum_is stands)) in
          subst W (sym (fold-more (kept_more reading) world rows j row inside
          ∙ ap (kept_more reading (fold (kept_more reading) world (take j rows))) (sym is)))
          (kept-one frame count (fold (kept_more reading) world (take j rows)) accums k (rule_values reading row.rule) new there more
          (c.loop-j.invariant.kept halo reading count world at entries haloed held kept));
      accums = All-set (IsAccumOf (length c.args.sites.now.homes.items)) accums k new c.keep.ensures.accum c.loop-j.invariant.accums;
      sums = sums-set accums first k new there old_sums c.loop-j.invariant.sums;
      same = λ i others_only.
          get_or-set_other accums k i new (no_sums 0) (λ e. others_only j (omega arith) (here ∙ sym e))
          ∙ c.loop-j.invariant.same i (λ n below. others_only n (omega arith));
      aged = λ bound each.
          let Few : RunningSums → Type 0 = λ a. a.count ≤ bound + 1 in
          let start : (accum_at first k).count ≤ bound = each k (no_sums 0) asked in
          let now : (accum_at accums k).count ≡ (accum_at first k).count = ap (λ (a : RunningSums). a.count) (c.loop-j.invariant.same k before) in
          let more : new.count ≤ bound + 1 = omega (arith, start, now, old_count) in
          All-set Few accums k new more (c.loop-j.invariant.aged bound each);
      room = record {
        places = c.assign.ensures.room.places ∙ c.loop-j.invariant.room.places;
        inputs = c.assign.ensures.room.inputs ∙ c.loop-j.invariant.room.inputs;
        scratch = c.assign.ensures.room.scratch ∙ c.loop-j.invariant.room.scratch;
      };
      further = made.places;
      further_values = made.values;
    }

pub returns-clause-kept : goal.returns-clause-kept
returns-clause-kept g c = λ halo reading count world at entries haloed held kept.
    let W : List FieldWorld → Type 0 = λ w. StandForKept c.args.scene.now.frame count w c.loop-j.accums in
    subst W (ap (fold (kept_more reading) world) (take_all c.loop-j.j c.args.rows.now c.loop-j-test.false))
    (c.loop-j.invariant.kept halo reading count world at entries haloed held kept)

pub assign-requires-clause-rule : goal.assign-requires-clause-rule
assign-requires-clause-rule g c =
    let P : SetRow → Type 0 = λ r. IsRuleOn c.args.scene.now (entries_of c.args.book.now) r.rule in
    subst P (sym c.index-rows-j.is) (c.requires.rows c.loop-j.j c.index-rows-j.result c.loop-j-test.true)

pub keep-requires-clause-count : goal.keep-requires-clause-count
keep-requires-clause-count g c =
    let rows = c.args.rows.now in
    let j = c.loop-j.j in
    let accums = c.loop-j.accums in
    let first = c.args.accums.now in
    let row = c.index-rows-j.result in
    let is = c.index-rows-j.is in
    let k = row.field in
    let inside : j < length rows = c.loop-j-test.true in
    let Target : SetRow → Type 0 = λ r. r.field < length first in
    let asked : k < length first = subst Target (sym is) (c.requires.targets j row inside) in
    let there : k < length accums = omega (arith, asked, c.loop-j.auto.accums) in
    let accum_is : accum_at accums k ≡ get_or accums k c.index-accums-k.result = get_or_default accums k (no_sums 0) c.index-accums-k.result there in
    let targets = map (λ (r : SetRow). r.field) rows in
    let here : slice_index targets j ≡ k = get_or-map (λ (r : SetRow). r.field) rows j row 0 inside ∙ ap (λ (r : SetRow). r.field) (sym is) in
    let among : j < length targets = rw length-map inside in
    let before : (i : ℕ) → i < j → slice_index targets i ≢ k = λ i below e. c.requires.once i j 0 below among (e ∙ sym here) in
    let Few : SetRow → Type 0 = λ r. (accum_at first r.field).count < 2 ^ 24 in
    let Room : RunningSums → Type 0 = λ a. a.count < 2 ^ 24 in
    subst Room (sym (c.loop-j.invariant.same k before) ∙ accum_is) (subst Few (sym is) (c.requires.counts j row inside))

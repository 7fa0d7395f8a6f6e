use Rattle.std.proofs.Common.{◌≡◌, ◌≢◌, ◌∙◌, ◌<◌, ◌≤◌, ℕ, List, [], ℤ, ap, arith, fold, get_or, inl, inr, length, set, subst, sym, take}
use Rattle.std.proofs.lemmas.Bool.{cases_eq}
use Rattle.std.proofs.lemmas.List.{get_or_default, get_or-set_other, get_or-set_same, length-set, take_all}
use Rattle.std.proofs.lemmas.List.Elements.{All-set}
use Rattle.std.specs.Prelude.{slice_index}
use Rattle.cpl_block.specs.Frames.{IsOwn}
use Rattle.cpl_comp.specs.Worlds.{FieldWorld, cell_value, field_at as world_at}
use Rattle.cpl_comp.specs.Writes.{average_write, emptied}
use Rattle.cpl_mediator.specs.Averages.{RunningSums, no_sums}
use Rattle.cpl_sweep.specs.Places.{field_at}
use Rattle.cpl_phase.specs.Keeping.{IsAccumOf, StandsForBlock}
use Rattle.cpl_phase.specs.Kept.{StandForKept, accum_at}
use Rattle.cpl_phase.specs.Worlds.{IsWritten}
use Rattle.cpl_phase.proofs.KeptFacts.{count-set, fold-more, forgotten-one, sums-set}
use Rattle.cpl_phase.proofs.RefreshedFacts.{on-block-set}
use Rattle.cpl_phase.proofs.averaging.average_all.Goals as goal

pub loop-j-preserved : goal.loop-j-preserved
loop-j-preserved c =
    let frame = c.args.frame.now in
    let fields = c.args.fields.now in
    let places = c.args.places.now in
    let j = c.loop-j.j in
    let accums = c.loop-j.accums in
    let others = c.loop-j.others in
    let new = c.average.new.accum in
    let out = c.average.new.out in
    let inside : j < length places = c.loop-j-test.true in
    let k = slice_index places j in
    let there : k < length fields = c.requires.places j 0 inside in
    let asked_sums : k < length c.args.accums.now = c.requires.summed j 0 inside in
    let at : k < length accums = omega (arith, asked_sums, c.loop-j.invariant.accums.number) in
    let room : j < length others = omega (arith, inside, c.requires.count, c.loop-j.auto.others) in
    let accum_is : accum_at accums k ≡ get_or accums k c.index-accums-k.result = get_or_default accums k (no_sums 0) c.index-accums-k.result at in
    let field_is : field_at fields k ≡ get_or fields k c.index-fields-k.result = get_or_default fields k [] c.index-fields-k.result there in
    let before : (i : ℕ) → i < j → slice_index places i ≢ k = λ i below. c.requires.once i j 0 below inside in
    record {
      written = λ layout count world grid hold kept asked i below within.
          let P : List ℤ → Type 0 = λ field. IsWritten frame (average_write layout world (slice_index places i)) field in
          elim (cases_eq i j) [
            | inl same ↦
                let field = world_at world k in
                let few : k < count = asked j 0 inside in
                let A : RunningSums → Type 0 = λ a. StandsForBlock frame a field.kept in
                let F : List ℤ → Type 0 = IsOwn frame (cell_value field.values) in
                let stands = subst A (sym (c.loop-j.invariant.same k before) ∙ accum_is) (kept.each k few) in
                let own = subst F (field_is ∙ sym c.index-fields-k.is)
                (c.frame_laws.ensures.held (cell_value field.values) (field_at fields k) (hold.values k few)) in
                let made : IsWritten frame (average_write layout world k) out =
                c.average.ensures.written layout field.values field.kept grid stands own in
                let Q : ℕ → Type 0 = λ n. IsWritten frame (average_write layout world (slice_index places n)) (field_at (set others j out) n) in
                let R : List ℤ → Type 0 = λ f. IsWritten frame (average_write layout world k) f in
                subst Q (sym same) (subst R (sym (get_or-set_same others j out [] room)) made)
            | inr other ↦ subst P (sym (get_or-set_other others j i out [] other))
                (c.loop-j.invariant.written layout count world grid hold kept asked i (omega arith) within)
          ];
      kept = λ count world kept.
          let W : List FieldWorld → Type 0 = λ w. StandForKept frame count w (set accums k new) in
          subst W (sym (fold-more emptied world places j 0 inside))
          (forgotten-one frame count (fold emptied world (take j places)) accums k new at c.average.ensures.stands
          (c.loop-j.invariant.kept count world kept));
      same = λ i others_only.
          get_or-set_other accums k i new (no_sums 0) (λ is. others_only j (omega arith) (sym is))
          ∙ c.loop-j.invariant.same i (λ n below. others_only n (omega arith));
      accums = record {
        number = length-set accums k new ∙ c.loop-j.invariant.accums.number;
        each = All-set (IsAccumOf (length c.args.sites.now.homes.items)) accums k new c.average.ensures.accum c.loop-j.invariant.accums.each;
      };
      sums = sums-set accums c.args.accums.now k new at
          (c.average.ensures.sums ∙ ap (λ (a : RunningSums). length a.sums) (sym accum_is)) c.loop-j.invariant.sums;
      fewer = count-set accums c.args.accums.now k new at c.average.ensures.stands.count c.loop-j.invariant.fewer;
      aged = λ bound each.
          let Few : RunningSums → Type 0 = λ a. a.count ≤ bound in
          All-set Few accums k new (omega (arith, c.average.ensures.stands.count)) (c.loop-j.invariant.aged bound each);
      others = on-block-set frame
          (length c.args.others.now) others j out c.loop-j.invariant.others c.average.ensures.places c.average.ensures.out_values;
    }

pub returns-clause-written : goal.returns-clause-written
returns-clause-written c = λ layout count world grid hold kept asked j inside.
    c.loop-j.invariant.written layout count world grid hold kept asked j (omega (arith, inside, c.loop-j-test.false)) inside

pub returns-clause-kept : goal.returns-clause-kept
returns-clause-kept c = λ count world kept.
    let W : List FieldWorld → Type 0 = λ w. StandForKept c.args.frame.now count w c.loop-j.accums in
    subst W (ap (fold emptied world) (take_all c.loop-j.j c.args.places.now c.loop-j-test.false)) (c.loop-j.invariant.kept count world kept)

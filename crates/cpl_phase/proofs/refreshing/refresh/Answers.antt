use Rattle.std.proofs.Common.{◌≡◌, ◌∙◌, ◌<◌, List, [], ℤ, length, arith, refl, subst, get_or}
use Rattle.std.proofs.lemmas.List.{get_or_default}
use Rattle.cpl_block.specs.Frames.{places_in}
use Rattle.cpl_block.specs.Rings.{IsRefilled}
use Rattle.cpl_sweep.specs.Places.{field_at}
use Rattle.cpl_phase.proofs.RefreshedFacts.{on-block-set, refilled-more}
use Rattle.cpl_phase.proofs.refreshing.refresh.Goals as goal

pub loop-j-preserved : goal.loop-j-preserved
loop-j-preserved c =
    let k = get_or c.args.halo.now c.loop-j.j 0 in
    let asked : k < length c.args.fields.now = c.requires.halo c.loop-j.j 0 c.loop-j-test.true in
    let there : k < length c.loop-j.fields = omega (arith, asked, c.loop-j.auto.fields) in
    let on = c.loop-j.invariant.fields in
    let new = c.refresh_one.new.field in
    let Old : List ℤ → Type 0 = λ old. IsRefilled c.args.frame.now old new in
    let refilled : IsRefilled c.args.frame.now (field_at c.loop-j.fields k) new =
    subst Old (get_or_default c.loop-j.fields k c.index-fields-k.result [] there) c.refresh_one.ensures in
    let long : length (field_at c.loop-j.fields k) ≡ places_in c.args.frame.now = on.places k [] there in
    record {
      fields = on-block-set c.args.frame.now (length c.args.fields.now) c.loop-j.fields k new on (refilled.count ∙ long)
          (refilled.values (on.values k [] there));
      filled = refilled-more c.args.frame.now c.args.halo.now c.loop-j.j k c.args.fields.now c.loop-j.fields new there refl c.loop-j.invariant.filled
          refilled;
    }

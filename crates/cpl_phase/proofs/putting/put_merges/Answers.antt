use Rattle.std.proofs.Common.{◌≡◌, ◌∙◌, ◌<◌, ◌+◌, List, [], ℤ, ap, arith, drop, get_or, length, map, set, subst, sym}
use Rattle.std.proofs.lemmas.List.{get_or_default}
use Rattle.cpl_comp.specs.declared.component.MergeRow.{MergeRow}
use Rattle.cpl_phase.specs.Puts.{AreBack, all_put}
use Rattle.cpl_phase.proofs.PutFacts.{back-more, put-more}
use Rattle.cpl_phase.proofs.putting.put_merges.Goals as goal

pub loop-j-preserved : goal.loop-j-preserved
loop-j-preserved c =
    let j = c.loop-j.j in
    let row = c.index-rows-j.result in
    let k = (get_or c.args.rows.now j row).field in
    let asked : k < length c.args.fields.now = c.requires.rows j row c.loop-j-test.true in
    let at : k < length c.loop-j.fields = omega (arith, asked, c.loop-j.auto.fields) in
    let inside : j < length c.loop-j.others = omega (arith, c.loop-j-test.true, c.requires.count, c.loop-j.auto.others) in
    let new_fields : c.replace.new.fields ≡ set c.loop-j.fields k (get_or c.loop-j.others j []) =
    c.replace.ensures.fields ∙ ap (set c.loop-j.fields k) (get_or_default c.loop-j.others j c.index-others-j.result [] inside) in
    let Back : List ℤ → Type 0 = λ next. AreBack c.args.fields.now c.args.others.now (set c.loop-j.others j next) in
    let There : List (List ℤ) → Type 0 = λ fields. AreBack c.args.others.now c.args.fields.now fields in
    record {
      put = ap (all_put (map (λ (row : MergeRow). row.field) (drop (j + 1) c.args.rows.now))
          (drop (j + 1) (set c.loop-j.others j c.replace.new.next))) new_fields
          ∙ put-more (λ (row : MergeRow). row.field) c.args.rows.now c.loop-j.others c.loop-j.fields j row c.replace.new.next
          c.loop-j-test.true inside
          ∙ c.loop-j.invariant.put;
      back = subst Back (sym c.replace.ensures.next)
          (back-more c.args.fields.now c.args.others.now c.loop-j.fields c.loop-j.others k j at inside c.loop-j.invariant.back
          c.loop-j.invariant.there);
      there = subst There (sym new_fields)
          (back-more c.args.others.now c.args.fields.now c.loop-j.others c.loop-j.fields j k inside at c.loop-j.invariant.there
          c.loop-j.invariant.back);
    }

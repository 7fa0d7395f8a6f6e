use Rattle.std.proofs.Common.{◌≡◌, ◌+◌, true, false, sym, arith, ◌∙◌}
use Rattle.cpl_script.proofs.TraceFacts.{export-at, places-next}
use Rattle.cpl_script.proofs.tracing.export_count.Goals as goal
use Rattle.cpl_script.proofs.tracing.export_count.Goals.{then-is_export, else-is_export}

pub loop-place-preserved : goal.loop-place-preserved
loop-place-preserved c =
    let fields = c.args.fields.now in
    let place = c.loop-place.place in
    let count = c.loop-place.count in
    let here = c.is_export.ensures ∙ export-at fields place c.index-fields-place.result c.loop-place-test.true c.index-fields-place.is in
    let few = c.loop-place.invariant.few in
    let none : count ≡ count + 0 = omega arith in
    elim c.if-is_export.branch [
      | then-is_export w ↦ record {
        counted = w.count-is ∙ places-next fields place count true (sym w.if-is_export.true ∙ here) c.loop-place.invariant.counted;
        few = omega (arith, few, w.count-is);
      }
      | else-is_export w ↦ record {
        counted = w.count-is ∙ none ∙ places-next fields place count false (sym w.if-is_export.false ∙ here) c.loop-place.invariant.counted;
        few = omega (arith, few, w.count-is);
      }
    ]

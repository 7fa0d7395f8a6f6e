use Rattle.std.proofs.Common.{◌≡◌, ℕ, ◌+◌, ◌≤◌, List, min, true, ap, arith, subst, sym, ◌∙◌}
use Rattle.std.specs.Prelude.{slice_index_or}
use Rattle.cpl_sequence.specs.Marks.{greatest_count}
use Rattle.cpl_sequence.specs.Operations.{operations_of, top_ops}
use Rattle.cpl_sequence.specs.RunEnds.{end_total, top_ends}
use Rattle.cpl_sequence.specs.Sound.{is_timed_top}
use Rattle.cpl_sequence.specs.declared.element.TopLoop.{TopLoop}
use Rattle.std.specs.List.{flat_map, list_all}
use Rattle.cpl_sequence.proofs.RunEndsFacts.{total-all, tops-count}
use Rattle.cpl_sequence.proofs.run_ends.run_total.Goals as goal

pub returns : goal.returns
returns c =
    let counts = c.args.counts.now in
    let tops = c.loops-top-items.result.now in
    let timed = c.loops-top-items.ensures.sound.timed in
    let small : (k : ℕ) → slice_index_or counts k 0 ≤ greatest_count = λ k. let fits = c.type_inv.counts k in omega (arith, fits) in
    let timed_tops : list_all is_timed_top tops ≡ true = subst (λ ts. list_all is_timed_top ts ≡ true) (sym c.loops-top-items.ensures.value) timed in
    let none : 0 + end_total counts (flat_map top_ops tops) ≡ end_total counts (flat_map top_ops tops) = omega arith in
    total-all (top_ends counts) tops c.loop-top.top-index c.loop-top.total c.loop-top-test.false c.loop-top.invariant
    ∙ tops-count counts small 0 tops (omega arith) timed_tops
    ∙ ap (λ n. min n greatest_count) none
    ∙ ap (λ (ts : List TopLoop). min (end_total counts (flat_map top_ops ts)) greatest_count) c.loops-top-items.ensures.value

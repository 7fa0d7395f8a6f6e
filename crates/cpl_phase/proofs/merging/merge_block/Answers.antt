use Rattle.std.proofs.Common.{◌∙◌, ◌+◌, ◌-◌, ◌≡◌, arith, length, map, drop, take}
use Rattle.std.specs.List.{range_with_len}
use Rattle.cpl_rule.proofs.SweptFacts.{swept-block}
use Rattle.cpl_phase.specs.Merging.{merge_at, merge_step}
use Rattle.cpl_phase.proofs.merging.merge_block.Goals as goal

pub returns : goal.returns
returns c =
    let first = c.first-first.result in
    let span = c.span-span.result in
    let frame = c.args.frame.now in
    let terms = c.args.row.now.terms in
    let fields = c.args.fields.now in
    let out = c.args.out.now in
    let n = length (take (first + span - first) (drop first out)) in
    let made : c.merge_run.new.these ≡ map (merge_step frame terms fields) (range_with_len 0 n) =
    c.merge_run.ensures.values
    ∙ (λ i. map (λ step. merge_at (c.items.ensures i) fields (c.first-first.ensures.value i + step)) (range_with_len 0 n)) in
    swept-block frame (merge_step frame terms fields) first span (first + span - first) out c.merge_run.new.these
    c.frame_laws.ensures c.first-first.ensures.value c.span-span.ensures.value
    (omega arith) c.requires.out c.requires.out_values c.merge_run.ensures.within made

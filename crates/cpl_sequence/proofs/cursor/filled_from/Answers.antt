use Rattle.std.proofs.Common.{◌∙◌, ap, sym}
use Rattle.cpl_sequence.proofs.CursorFacts.{skipping_end, skipping_filled, skipping_more, skipping_none}
use Rattle.cpl_sequence.proofs.cursor.filled_from.Goals as goal

pub loop-place-init : goal.loop-place-init
loop-place-init c = skipping_none c.args.tops.now c.args.from

pub returns-then-not-is_empty : goal.returns-then-not-is_empty
returns-then-not-is_empty c =
    skipping_filled c.args.tops.now c.args.from c.loop-place.place c.index-tops-place.result c.loop-place-test.true c.index-tops-place.is
    (λ none. let full = c.if-not-is_empty.true in let empty = c.is_empty.ensures.1 (sym (ap (λ t. t.body) c.index-tops-place.is) ∙ none) in cc)
    c.loop-place.invariant

pub loop-place-preserved : goal.loop-place-preserved
loop-place-preserved c =
    skipping_more c.args.tops.now c.args.from c.loop-place.place c.index-tops-place.result c.loop-place-test.true c.index-tops-place.is
    (ap (λ t. t.body) c.index-tops-place.is ∙ c.is_empty.ensures.0 c.if-not-is_empty.false)
    c.loop-place.invariant

pub returns : goal.returns
returns c = skipping_end c.args.tops.now c.args.from c.loop-place.place c.requires c.loop-place-test.false c.loop-place.invariant

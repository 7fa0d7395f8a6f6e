use Rattle.cpl_report.proofs.LineFacts.{line-more}
use Rattle.cpl_report.proofs.refusal.refusal_text.Goals as goal

pub loop-word-preserved : goal.loop-word-preserved
loop-word-preserved c =
    line-more c.args.refusal.now.number c.items-words.result.now c.loop-word.word-index c.word-item.result c.bytes.result.now _ _ _ c.loop-word-test.true c.word-item.is c.bytes.ensures c.loop-word.invariant c.in_ok-push-2.ensures.items c.in_ok-extend_from_slice-3.ensures.items

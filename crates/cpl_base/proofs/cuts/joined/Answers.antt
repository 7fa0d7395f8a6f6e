use Rattle.std.proofs.Common.{sym}
use Rattle.cpl_base.proofs.WordsFacts.{join-first, join-next}
use Rattle.cpl_base.proofs.cuts.joined.Goals as goal
use Rattle.cpl_base.proofs.cuts.joined.Goals.{then-place-gt0+in_ok-push, else-place-gt0}

pub loop-place-preserved : goal.loop-place-preserved
loop-place-preserved c =
    let words = c.args.words.now in
    let place = c.loop-place.place in
    elim c.if-place-gt0.branch [
      | then-place-gt0+in_ok-push w ↦ rw (c.in_ok-extend_from_slice.ensures.items, w.text-is, w.in_ok-push.ensures.items, c.loop-place.invariant) (sym (join-next 32 words place _ c.loop-place-test.true w.if-place-gt0.true))
      | else-place-gt0 w ↦ rw (c.in_ok-extend_from_slice.ensures.items, w.text-is, c.loop-place.invariant) (sym (join-first 32 words place _ c.loop-place-test.true w.if-place-gt0.false))
    ]

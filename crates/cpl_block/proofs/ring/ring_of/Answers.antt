use Rattle.std.proofs.Common.{arith}
use Rattle.cpl_block.proofs.RingFacts.{noted-all, noted-more}
use Rattle.cpl_block.proofs.ring.ring_of.Goals as goal

pub loop-place-preserved : goal.loop-place-preserved
loop-place-preserved c =
    noted-more c.args.frame.now c.loop-place.place c.loop-place.ring c.note.new.ring c.loop-place.invariant c.in_ok-note.ensures

pub returns : goal.returns
returns c =
    noted-all c.args.frame.now c.loop-place.ring c.loop-place.place (omega (arith, c.loop-place-test.false, c.loop-place.auto.place-end, c.places-place-end.ensures.value)) c.loop-place.invariant

use Rattle.std.proofs.Common.{arith}
use Rattle.cpl_block.proofs.AimFacts.{aim-fits, aimed-all, aimed-more}
use Rattle.cpl_block.proofs.aim.aim_of.Goals as goal

pub loop-place-preserved : goal.loop-place-preserved
loop-place-preserved c =
    aimed-more c.args.frame.now c.args.cells.now c.loop-place.place c.loop-place.aim c.note.new.aim c.loop-place.invariant c.in_ok-note.ensures

pub returns-clause-aim : goal.returns-clause-aim
returns-clause-aim c =
    aimed-all c.args.frame.now c.args.cells.now c.loop-place.aim c.loop-place.place (omega (arith, c.loop-place-test.false, c.loop-place.auto.place-end, c.places-place-end.ensures.value)) c.loop-place.invariant

pub returns-clause-fits : goal.returns-clause-fits
returns-clause-fits c =
    aim-fits c.args.frame.now c.args.cells.now c.loop-place.aim (aimed-all c.args.frame.now c.args.cells.now c.loop-place.aim c.loop-place.place (omega (arith, c.loop-place-test.false, c.loop-place.auto.place-end, c.places-place-end.ensures.value)) c.loop-place.invariant)

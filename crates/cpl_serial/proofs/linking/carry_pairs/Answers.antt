use Rattle.cpl_serial.proofs.CarryFacts.{carried-none}
use Rattle.cpl_serial.proofs.linking.carry_pairs.Goals as goal

pub loop-j-init : goal.loop-j-init
loop-j-init c = (
  record {
    whole = c.requires.whole;
    aged = λ done each. each;
    after = λ world stand. carried-none c.args.system.now c.args.line.now c.requires.connector c.args.at_init world c.args.locals.now stand;
  },
  c.requires.room,
)

pub loop-j-preserved : goal.loop-j-preserved
loop-j-preserved c = (c.carry_at.ensures.linked c.args.locals.now c.loop-j.invariant.0, c.carry_at.ensures.room)

use Rattle.cpl_build.proofs.FileFacts.{table-cells}
use Rattle.cpl_build.proofs.weighing.read_within.Goals as goal

pub returns-in-Ok-clause-cells : goal.returns-in-Ok-clause-cells
returns-in-Ok-clause-cells c = table-cells c.args.src c.args.dst c.args.bytes.now c.in-Ok.weights c.in-Ok.ensures.answer.value

use Rattle.std.proofs.Common.{arith}
use Rattle.cpl_block.proofs.SizeFacts.{few-places}
use Rattle.cpl_block.proofs.frame.Frame.places.Goals as goal

pub overflow_mul-result-2 : goal.overflow_mul-result-2
overflow_mul-result-2 c =
    let few = few-places c.args.self.now c.requires in rw c.row_length.ensures.value (omega (arith, few))

pub returns-clause-few : goal.returns-clause-few
returns-clause-few c =
    let few = few-places c.args.self.now c.requires in rw c.row_length.ensures.value (omega (arith, few))

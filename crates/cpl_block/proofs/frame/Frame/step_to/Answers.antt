use Rattle.std.proofs.Common.{arith}
use Rattle.cpl_block.proofs.SizeFacts.{step-few}
use Rattle.cpl_block.proofs.frame.Frame.step_to.Goals as goal

pub overflow_mul-result : goal.overflow_mul-result
overflow_mul-result c =
    let few = step-few c.args.self.now c.args.a c.args.b c.requires.frame c.requires.spot in
    rw c.row_length.ensures.value (omega (arith, few))

pub overflow_add-result : goal.overflow_add-result
overflow_add-result c =
    let few = step-few c.args.self.now c.args.a c.args.b c.requires.frame c.requires.spot in
    rw c.row_length.ensures.value (omega (arith, few))

use Rattle.std.proofs.Common.{arith}
use Rattle.cpl_block.proofs.SizeFacts.{few-places, span-few}
use Rattle.cpl_block.proofs.frame.Frame.span.Goals as goal

pub overflow_mul-result : goal.overflow_mul-result
overflow_mul-result c =
    let span = span-few c.args.self.now c.requires in
    let few = few-places c.args.self.now c.requires in
    rw c.row_length.ensures.value (omega (arith, span, few))

pub overflow_add-result : goal.overflow_add-result
overflow_add-result c =
    let span = span-few c.args.self.now c.requires in
    let few = few-places c.args.self.now c.requires in
    rw c.row_length.ensures.value (omega (arith, span, few))

pub returns-clause-within : goal.returns-clause-within
returns-clause-within c = rw c.row_length.ensures.value (span-few c.args.self.now c.requires)

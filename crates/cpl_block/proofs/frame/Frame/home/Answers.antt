use Rattle.std.proofs.Common.{arith}
use Rattle.cpl_block.proofs.FrameFacts.{inside-of}
use Rattle.cpl_block.proofs.frame.Frame.home.Goals as goal

pub overflow_sub-column-2 : goal.overflow_sub-column-2
overflow_sub-column-2 c = (inside-of c.args.self.now c.args.s c.requires.frame c.requires.ours).left

pub overflow_sub-row-2 : goal.overflow_sub-row-2
overflow_sub-row-2 c = (inside-of c.args.self.now c.args.s c.requires.frame c.requires.ours).up

pub overflow_mul-result : goal.overflow_mul-result
overflow_mul-result c =
    let inside = inside-of c.args.self.now c.args.s c.requires.frame c.requires.ours in
    rw c.row_length.ensures.value (omega (arith, inside.within, inside.few))

pub overflow_add-result-2 : goal.overflow_add-result-2
overflow_add-result-2 c =
    let inside = inside-of c.args.self.now c.args.s c.requires.frame c.requires.ours in
    rw c.row_length.ensures.value (omega (arith, inside.within, inside.few))

pub overflow_add-result-3 : goal.overflow_add-result-3
overflow_add-result-3 c =
    let inside = inside-of c.args.self.now c.args.s c.requires.frame c.requires.ours in
    rw c.row_length.ensures.value (omega (arith, inside.within, inside.few))

pub returns-clause-within : goal.returns-clause-within
returns-clause-within c =
    let inside = inside-of c.args.self.now c.args.s c.requires.frame c.requires.ours in
    rw c.row_length.ensures.value inside.within

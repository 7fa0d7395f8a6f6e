use Rattle.std.proofs.Common.{arith, ◌∙◌}
use Rattle.cpl_sequence.proofs.PlaceFacts.{top-body}
use Rattle.cpl_sequence.proofs.ops.top_op.Goals as goal

pub nonzero_div-time : goal.nonzero_div-time
nonzero_div-time c = (top-body c.args.top.now c.args.mark.now c.args.k c.requires).some

pub nonzero_rem-within : goal.nonzero_rem-within
nonzero_rem-within c = (top-body c.args.top.now c.args.mark.now c.args.k c.requires).some

pub overflow_mul-time : goal.overflow_mul-time
overflow_mul-time c =
    let op = top-body c.args.top.now c.args.mark.now c.args.k c.requires in
    let early = op.at.early in
    omega arith

pub overflow_add-time : goal.overflow_add-time
overflow_add-time c =
    let op = top-body c.args.top.now c.args.mark.now c.args.k c.requires in
    let early = op.at.early in
    omega arith

pub body_op-requires : goal.body_op-requires
body_op-requires c = rw (c.as_slice.ensures, c.as_slice-2.ensures) (top-body c.args.top.now c.args.mark.now c.args.k c.requires).at

pub returns : goal.returns
returns c = (top-body c.args.top.now c.args.mark.now c.args.k c.requires).same ∙ rw (← c.as_slice.ensures) c.body_op.ensures

use Rattle.std.proofs.Common.{arith}
use Rattle.cpl_block.proofs.SizeFacts.{few-places, row-few}
use Rattle.cpl_block.proofs.totals.row_values.Goals as goal

pub overflow_mul-start : goal.overflow_mul-start
overflow_mul-start c =
    let row = row-few c.args.frame.now c.args.b c.requires.frame c.requires.row in
    let few = few-places c.args.frame.now c.requires.frame in
    rw c.row_length.ensures.value (omega (arith, row, few))

pub overflow_add-start : goal.overflow_add-start
overflow_add-start c =
    let row = row-few c.args.frame.now c.args.b c.requires.frame c.requires.row in
    let few = few-places c.args.frame.now c.requires.frame in
    rw (c.first.ensures.value, c.row_length.ensures.value) (omega (arith, row, few))

pub split_at-requires : goal.split_at-requires
split_at-requires c =
    let row = row-few c.args.frame.now c.args.b c.requires.frame c.requires.row in
    rw (c.first.ensures.value, c.row_length.ensures.value) (omega (arith, row, c.requires.places))

pub split_at-requires-2 : goal.split_at-requires-2
split_at-requires-2 c =
    let row = row-few c.args.frame.now c.args.b c.requires.frame c.requires.row in
    let back = rw (c.first.ensures.value, c.row_length.ensures.value) at c.split_at.ensures.back_len in
    omega (arith, row, back, c.requires.places)

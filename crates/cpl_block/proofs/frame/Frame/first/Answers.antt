use Rattle.std.proofs.lemmas.Int.{to_z-of_z}
use Rattle.std.specs.Int.{w8}
use Rattle.cpl_block.proofs.SizeFacts.{first-few}
use Rattle.cpl_block.proofs.frame.Frame.first.Goals as goal

pub returns-clause-within : goal.returns-clause-within
returns-clause-within c =
    let few = first-few c.args.self.now c.args.dx c.args.dy c.requires.frame c.requires.offset in
    rw (c.row_length.ensures.value, c.shifted.ensures.value, c.shifted-2.ensures.value, to_z-of_z w8 c.args.dx c.ranges.dx, to_z-of_z w8 c.args.dy c.ranges.dy) few

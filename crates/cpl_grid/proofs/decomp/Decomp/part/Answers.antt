use Rattle.std.proofs.Common.{subst}
use Rattle.cpl_grid.specs.Owners.{IsLayout}
use Rattle.cpl_grid.proofs.OwnerFacts.{part_of-is, part_of-part}
use Rattle.cpl_grid.proofs.decomp.Decomp.part.Goals as goal

pub returns : goal.returns
returns c =
    let layout = subst IsLayout c.self.view_is c.self.invariant in
    let value = part_of-is c.args.self.now _ c.args.pet _ _ _ c.self.view_is c.from-block.ensures c.block_at.ensures.value c.block_at-2.ensures.value in
    record {
      value = value;
      is_part = rw value (part_of-part c.args.self.now c.args.pet layout c.requires);
      layout = layout;
    }

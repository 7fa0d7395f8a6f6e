use Rattle.std.proofs.Common.{ap, arith}
use Rattle.cpl_grid.specs.Owners.{Layout, owner_of}
use Rattle.cpl_grid.proofs.OwnerFacts.{cells_of-once, part-placed}
use Rattle.cpl_grid.proofs.decomp.Decomp.local.Goals as goal

pub overflow_sub-row-2 : goal.overflow_sub-row-2
overflow_sub-row-2 c =
    let placed = part-placed c.args.self.now c.args.s c.owner.result _ _ c.part-part.ensures.layout c.part-part.ensures.is_part c.owner.ensures.value c.requires (ap (λ (layout : Layout). layout.grid.nx) c.self.view_is) in omega (arith, placed.above)

pub overflow_mul-result : goal.overflow_mul-result
overflow_mul-result c =
    let placed = part-placed c.args.self.now c.args.s c.owner.result _ _ c.part-part.ensures.layout c.part-part.ensures.is_part c.owner.ensures.value c.requires (ap (λ (layout : Layout). layout.grid.nx) c.self.view_is) in omega (arith, placed.small)

pub overflow_sub-column-2 : goal.overflow_sub-column-2
overflow_sub-column-2 c =
    let placed = part-placed c.args.self.now c.args.s c.owner.result _ _ c.part-part.ensures.layout c.part-part.ensures.is_part c.owner.ensures.value c.requires (ap (λ (layout : Layout). layout.grid.nx) c.self.view_is) in omega (arith, placed.left)

pub overflow_add-result : goal.overflow_add-result
overflow_add-result c =
    let placed = part-placed c.args.self.now c.args.s c.owner.result _ _ c.part-part.ensures.layout c.part-part.ensures.is_part c.owner.ensures.value c.requires (ap (λ (layout : Layout). layout.grid.nx) c.self.view_is) in omega (arith, placed.small)

pub returns : goal.returns
returns c =
    let placed = part-placed c.args.self.now c.args.s c.owner.result _ _ c.part-part.ensures.layout c.part-part.ensures.is_part c.owner.ensures.value c.requires (ap (λ (layout : Layout). layout.grid.nx) c.self.view_is) in
    let layout = c.args.self.now in
    record {
      value = placed.value;
      unique = λ k there. cells_of-once layout (owner_of layout c.args.s) k _ c.args.s there placed.value;
      within = placed.within;
    }

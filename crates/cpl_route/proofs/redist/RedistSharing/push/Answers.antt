use Rattle.std.proofs.Common.{◌∙◌, ap, ◌++◌}
use Rattle.cpl_route.proofs.OwnedFacts.{shared-owned}
use Rattle.cpl_route.proofs.redist.RedistSharing.push.Goals as goal

pub returns : goal.returns
returns c =
    c.in_ok-push_cells.ensures
    ∙ ap (λ xs. c.args.out.now.items ++ xs) (shared-owned c.args.self.now.src.now c.args.self.now.dst.now c.args.from _ c.part.result c.needs-needs.result.dst.now c.needs-needs.result.to c.needs-needs.result.grid
    c.part.ensures.is_part c.needs-needs.ensures.dst c.needs-needs.ensures.to c.needs-needs.ensures.grid)

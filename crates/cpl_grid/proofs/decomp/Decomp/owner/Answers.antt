use Rattle.std.proofs.Common.{ap, ◌∙◌}
use Rattle.cpl_grid.specs.Owners.{Layout, owner_of}
use Rattle.cpl_grid.proofs.OwnerFacts.{owner_from}
use Rattle.cpl_grid.proofs.decomp.Decomp.owner.Goals as goal

pub returns-clause-value : goal.returns-clause-value
returns-clause-value c =
    owner_from _ c.args.s _ _ c.holder-across.ensures.value c.holder-down.ensures.value ∙ ap (λ (layout : Layout). owner_of layout c.args.s) c.self.view_is

use Rattle.std.proofs.Common.{sym, ◌∙◌}
use Rattle.std.proofs.lemmas.List.Folds.{list_any_at}
use Rattle.cpl_route.proofs.halo_pair.HaloPair.meets.Goals as goal

pub returns-then-lies_at : goal.returns-then-lies_at
returns-then-lies_at c =
    sym (list_any_at _ c.args.self.now.offsets.now c.loop-offset.offset-index _ c.loop-offset-test.true (sym c.lies_at.ensures ∙ c.if-lies_at.true))

use Rattle.cpl_route.proofs.OwnedFacts.{owned-no_row, owned-stretch}
use Rattle.std.proofs.Common.{sym, ◌∙◌}
use Rattle.cpl_route.proofs.owned.Owned.in_row.Goals as goal

pub returns-then-holds : goal.returns-then-holds
returns-then-holds c =
    owned-stretch c.args.self.now.dst.now c.args.self.now.to c.args.self.now.part c.args.row c.args.column c.args.limit c.block_stretch.result
    (rw c.grid.ensures.value at c.numbering_laws.ensures) c.requires.sound.is_part c.requires.row c.requires.limit (sym c.holds.ensures ∙ c.if-holds.true)
    c.block_stretch.ensures.some c.block_stretch.ensures.within c.block_stretch.ensures.same

pub returns-else-holds : goal.returns-else-holds
returns-else-holds c =
    owned-no_row c.args.self.now.dst.now c.args.self.now.to c.args.self.now.part c.args.row c.args.column c.args.limit
    (rw c.grid.ensures.value at c.numbering_laws.ensures) c.requires.sound.is_part c.requires.row c.requires.limit c.requires.column (sym c.holds.ensures ∙ c.if-holds.false)

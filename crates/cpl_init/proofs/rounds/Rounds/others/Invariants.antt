use Rattle.std.proofs.Common.{◌≡◌}
use Rattle.cpl_init.specs.Rounds.{free_components}
use Rattle.cpl_init.proofs.rounds.Rounds.others.Given as goal

-- the free ones so far
abbrev pub invariant-loop-component : goal.invariant-loop-component
invariant-loop-component l = l.others.items ≡ free_components l.component l.self.placed.items

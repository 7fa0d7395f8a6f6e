use Rattle.std.proofs.Common.{◌≡◌, [], take}
use Rattle.cpl_init.specs.Rounds.{IsRounds}
use Rattle.cpl_init.proofs.rounds.Rounds.of.Given as goal

-- the rounds over the rows so far
abbrev pub invariant-loop-i : goal.invariant-loop-i
invariant-loop-i l = record {
  count : l.rounds.count ≡ l.count;
  rounds : IsRounds l.count (take l.i l.needs) [] l.rounds.needed.items l.rounds.missing.items l.rounds.placed.items;
}

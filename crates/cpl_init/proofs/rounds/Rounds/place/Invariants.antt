use Rattle.std.proofs.Common.{◌≡◌, true, set}
use Rattle.cpl_init.specs.Rounds.{IsLoweredBelow}
use Rattle.cpl_init.proofs.rounds.Rounds.place.Given as goal

-- those so far miss one less, and nothing else changes
abbrev pub invariant-loop-at : goal.invariant-loop-at
invariant-loop-at l = record {
  count : l.self.count ≡ l.fn.self.count;
  needed : l.self.needed.items ≡ l.fn.self.needed.items;
  placed : l.self.placed.items ≡ set l.fn.self.placed.items l.component true;
  missing : IsLoweredBelow l.at l.self.count l.component l.self.needed.items l.fn.self.missing.items l.self.missing.items;
}

use Rattle.std.proofs.Common.{◌≡◌, ℕ, ◌<◌, true, false, not, ◌&&◌}
use Rattle.std.specs.Prelude.{◌==◌}
use Rattle.std.specs.List.{slice_index, slice_index_or}
use Rattle.cpl_init.proofs.rounds.Rounds.next.Given as goal

-- none so far is free
abbrev pub invariant-loop-component : goal.invariant-loop-component
invariant-loop-component l = (k : ℕ) → k < l.component → (not (slice_index_or l.self.placed.items k true) && (slice_index l.self.missing.items k == 0)) ≡ false

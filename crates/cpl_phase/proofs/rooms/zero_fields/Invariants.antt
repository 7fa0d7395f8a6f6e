use Rattle.std.proofs.Common.{◌≡◌, pos, replicate}
use Rattle.cpl_phase.proofs.rooms.zero_fields.Given as goal

-- so many fields of zeros
abbrev pub invariant-loop-k : goal.invariant-loop-k
invariant-loop-k l = l.fields.items ≡ replicate l._k (replicate l.places (pos 0))

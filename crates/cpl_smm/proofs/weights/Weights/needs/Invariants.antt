use Rattle.std.proofs.Common.{◌≡◌, map}
use Rattle.std.specs.List.{range_with_len}
use Rattle.cpl_smm.specs.Needs.{need_of}
use Rattle.cpl_smm.proofs.weights.Weights.needs.Given as goal

-- what the PETs so far need
abbrev pub invariant-loop-k : goal.invariant-loop-k
invariant-loop-k l = l.needs.items ≡ map (need_of l.self l.dst) (range_with_len l.first l.k)

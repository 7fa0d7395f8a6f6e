use Rattle.std.proofs.Common.{◌≤◌, take}
use Rattle.std.specs.List.{All}
use Rattle.cpl_phase.specs.Rooms.{further_fields}
use Rattle.cpl_phase.proofs.rooms.most_further.Given as goal

-- no less than the number, nor than those of the phases passed
abbrev pub invariant-loop-p : goal.invariant-loop-p
invariant-loop-p l = record {
  least : l.initial.most ≤ l.most;
  phases : All (λ phase. further_fields phase ≤ l.most) (take l.p l.phases);
}

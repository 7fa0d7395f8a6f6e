use Rattle.std.proofs.Common.{◌≡◌, map, take}
use Rattle.std.specs.List.{All}
use Rattle.cpl_mediator.specs.Merges.{IsTerm}
use Rattle.cpl_phase.specs.Merging.{factors_at}
use Rattle.cpl_phase.proofs.merging.merge_one.Given as goal

-- the factors passed
abbrev pub invariant-loop-k : goal.invariant-loop-k
invariant-loop-k l = record {
  factors : take l.k l.factors ≡ map (factors_at l.fields l.place) (take l.k l.terms);
  within : All IsTerm (take l.k l.factors);
}

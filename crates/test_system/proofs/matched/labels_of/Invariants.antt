use Rattle.std.proofs.Common.{◌≡◌, map, take}
use Rattle.test_system.proofs.matched.labels_of.Given as goal

-- those of the phases so far
abbrev pub invariant-loop-phase : goal.invariant-loop-phase
invariant-loop-phase l = l.labels.items ≡ map (λ phase. phase.label) (take l.phase-index l.phases)

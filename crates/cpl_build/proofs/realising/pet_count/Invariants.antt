use Rattle.std.proofs.Common.{◌≡◌, ◌≤◌, take}
use Rattle.std.specs.List.{All}
use Rattle.cpl_build.specs.Outlines.{pet_count, pets_asked}
use Rattle.cpl_build.proofs.realising.pet_count.Given as goal

-- as many as the candidates so far ask for
abbrev pub invariant-loop-candidate : goal.invariant-loop-candidate
invariant-loop-candidate l = record {
  value : l.pets ≡ pet_count (take l.candidate-index l.candidates);
  some : 1 ≤ l.pets;
  few : l.pets ≤ 64;
  above : All (λ candidate. pets_asked candidate ≤ l.pets) (take l.candidate-index l.candidates);
}

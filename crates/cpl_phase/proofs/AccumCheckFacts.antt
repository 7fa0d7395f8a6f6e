-- Running sums of no field stand for what nothing is kept of.
use Rattle.std.proofs.Common.{◌≡◌, ℕ, ◌+◌, ◌<◌, List, [], ◌∷◌, ◌++◌, ℤ, refl, ap, arith}
use Rattle.std.proofs.lemmas.Bool.{lt-ltb}
use Rattle.std.proofs.lemmas.List.Elements.{All-head, All-tail}
use Rattle.std.specs.List.{All, enumerate_from, flat_map}
use Rattle.std.specs.Prelude.{nat_lt}
use Rattle.cpl_block.specs.declared.frame.Frame.{Frame}
use Rattle.cpl_comp.specs.RunFaults.{average_fault, has_kept, unless}
use Rattle.cpl_comp.specs.Worlds.{FieldWorld, field_at as world_at}
use Rattle.cpl_comp.specs.declared.found.FoundKind.TheVariants.{Average}
use Rattle.cpl_mediator.specs.Averages.{RunningSums}
use Rattle.cpl_phase.specs.Checks.{accum_fault}
use Rattle.cpl_phase.specs.Keeping.{StandsForBlock}
use Rattle.cpl_phase.specs.Kept.{StandForKept, accum_at}

-- there are fields in the sums where something is kept
same-kept : (frame : Frame) (running : RunningSums) (kept : List (List ℤ)) → StandsForBlock frame running kept
    → nat_lt 0 running.count ≡ has_kept kept
same-kept frame running [] stands = ap (nat_lt 0) stands.count
same-kept frame running (first ∷ more) stands = lt-ltb 0 running.count (omega (arith, stands.count))

-- the faults are the same
pub same-averages : (frame : Frame) (count : ℕ) (world : List FieldWorld) (accums : List RunningSums) → StandForKept frame count world accums
    → (n : ℕ) (places : List ℕ) → All (λ k. k < count) places
    → flat_map (accum_fault accums) (enumerate_from n places) ≡ flat_map (average_fault world) (enumerate_from n places)
same-averages frame count world accums kept n [] below = refl
same-averages frame count world accums kept n (k ∷ places) below =
    let Below : ℕ → Type 0 = λ k. k < count in
    let here = same-kept frame (accum_at accums k) (world_at world k).kept (kept.each k (All-head Below k places below)) in
    λ i. unless (here i) (65 + n) (Average k) ++ same-averages frame count world accums kept (n + 1) places (All-tail Below k places below) i

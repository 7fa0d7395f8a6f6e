-- The operations so far, and one more.
use Rattle.std.proofs.Common.{◌≡◌, ℕ, ℤ, ◌+◌, ◌*◌, ◌/◌, ◌<◌, ◌≤◌, List, [], ◌∷◌, ◌++◌, map, length, replicate, refl, sym, ap, ◌∙◌, zero-add, arith}
use Rattle.std.specs.List.{range_with_len}
use Rattle.std.proofs.lemmas.List.{map_push, length-map}
use Rattle.std.proofs.lemmas.List.FromFn.{map-range_with_len_more, length-range_with_len}
use Rattle.std.proofs.lemmas.List.Sums.{fold_push}
use Rattle.std.proofs.lemmas.Simd.{splat_is_map}
use Rattle.cpl_formula.specs.Tree.{value_of}
use Rattle.std.proofs.lemmas.Nat.{div-add-mod'}
use Rattle.std.proofs.Math.Nat.{mul-le-mul_right}
use Rattle.cpl_driver.specs.Endings.{IsEnding}
use Rattle.cpl_driver.specs.Runs.{Operation, initialise, run_at, first_world, world_after_operation, operations, rule_value, final_world, world_after}
use Rattle.cpl_driver.specs.declared.system.System.{System}

-- the initialisation and the first n runs
abbrev pub done : System → ℕ → List Operation
done system n = initialise ∷ map run_at (map (λ k. 0 + k * system.sequence.step) (range_with_len 0 n))

-- one run more
done_more : (system : System) (n : ℕ) → done system (n + 1) ≡ done system n ++ run_at (0 + n * system.sequence.step) ∷ []
done_more system n =
    ap (λ times. initialise ∷ map run_at times) (map-range_with_len_more (λ k. 0 + k * system.sequence.step) 0 n n (omega arith))
    ∙ ap (λ runs. initialise ∷ runs) (map_push run_at _ _)

-- the world after one run more
after_more : (system : System) (n : ℕ) → world_after system (done system (n + 1)) ≡ world_after_operation system (world_after system (done system n)) (run_at (0 + n * system.sequence.step))
after_more system n = ap (world_after system) (done_more system n) ∙ fold_push (world_after_operation system) first_world (done system n) _

-- the same, where one cell is kept, and the inputs are all its value
pub world_more : (system : System) (n clock : ℕ) (x y : ℤ) (inputs : List ℤ) → world_after system (done system n) ≡ record { clock = clock; runs = n; cells = x ∷ [] } → clock ≡ n * system.sequence.step → inputs ≡ replicate (length system.rule.reads) x → y ≡ value_of inputs system.rule.tree → world_after system (done system (n + 1)) ≡ record { clock = clock + system.sequence.step; runs = n + 1; cells = y ∷ [] }
world_more system n clock x y inputs so_far at all is =
    after_more system n ∙ ap (λ world. world_after_operation system world (run_at (0 + n * system.sequence.step))) so_far
    ∙ ap (λ time. record { clock = time + system.sequence.step; runs = n + 1; cells = rule_value system x ∷ [] }) (zero-add _ ∙ sym at)
    ∙ ap (λ value. record { clock = clock + system.sequence.step; runs = n + 1; cells = value ∷ [] })
    (sym (is ∙ ap (λ given. value_of given system.rule.tree) (all ∙ splat_is_map system.rule.reads _ x refl)))

-- the clock of a run that isn't the last has room for a step
pub step_fits : (n step duration : ℕ) → n < duration / step → n * step + step ≤ duration
step_fits n step duration below =
    omega (arith, div-add-mod' duration step, mul-le-mul_right step (let more : n + 1 ≤ duration / step = omega arith in more))

-- what is kept after the last run is what the serial run leaves
pub ending_of : (system : System) (n clock : ℕ) (x : ℤ) → n ≡ system.sequence.duration / system.sequence.step → world_after system (done system n) ≡ record { clock = clock; runs = n; cells = x ∷ [] } → IsEnding system (record { operations = 1 + system.sequence.duration / system.sequence.step; runs = system.sequence.duration / system.sequence.step; clock = clock; value = x })
unfolding final_world
ending_of system n clock x last world =
    let end : world_after system (operations system) ≡ record { clock = clock; runs = n; cells = x ∷ [] } = rw (← last) world in
    record {
      count = simp (length-map, length-range_with_len) (omega arith);
      runs = rw (end, last) refl;
      clock = rw end refl;
      cells = rw end refl;
    }

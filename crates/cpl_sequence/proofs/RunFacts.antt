-- The operations of a phase.
use Rattle.std.proofs.Common.{◌≡◌, ℕ, zero, suc, ◌+◌, ◌*◌, ◌/◌, ◌<◌, ◌≤◌, eqb, pos, true, length, Option, Some, None, refl, ap, ◌∙◌, arith, zero-add}
use Rattle.std.specs.Prelude.{slice_get, unwrap_or}
use Rattle.std.specs.List.{range_with_len}
use Rattle.std.proofs.lemmas.Option.{slice_get-get_or, slice_get-map}
use Rattle.std.specs.Option.{option_map}
use Rattle.std.proofs.lemmas.List.FromFn.{get_or-range_with_len, length-range_with_len}
use Rattle.std.proofs.Math.Nat.{div-mul-le_self, div_self, mul-le-mul_right}
use Rattle.cpl_sequence.specs.Sound.{is_substep}
use Rattle.cpl_sequence.specs.Operations.{run_ops}
use Rattle.cpl_sequence.specs.declared.op.Op.TheVariants.{Run as RunOp}
use Rattle.cpl_sequence.proofs.OperationSizes.{length-run_ops}
use Rattle.cpl_sequence.proofs.SoundFacts.{part_from}

-- the k-th part of a step
pub record IsPartOf (part step k : ℕ) : Type 0 where
  pub some : 0 < part
  pub below : k < step / part
  pub within : k * part + part ≤ step

-- a place among the parts of a step is one of a part within it
part_within : (part step k : ℕ) → 0 < part → k < step / part → IsPartOf part step k
part_within part step k some below = record {
  some = some;
  below = below;
  within = omega (arith, mul-le-mul_right part (let h : suc k ≤ step / part = omega arith in h), div-mul-le_self step part);
}

-- the k-th operation of a phase covers a part of the step
pub run_part : (component phase time step : ℕ) (substep : Option ℕ) (k : ℕ) → 0 < step → is_substep substep step ≡ true → k < length (run_ops component phase time step substep) → IsPartOf (unwrap_or substep step) step k
run_part component phase time step None k some parted below = part_within step step k some (omega (arith, div_self some))
run_part component phase time step (Some substep) k some parted below =
    part_within substep step k (part_from substep step parted).some (omega (arith, length-run_ops component phase time step (Some substep)))

-- the k-th operation of a phase
pub get-run_ops : (component phase time step : ℕ) (substep : Option ℕ) (k part : ℕ) → 0 < step → k < length (run_ops component phase time step substep) → part ≡ unwrap_or substep step → slice_get (run_ops component phase time step substep) k ≡ Some (RunOp component phase (pos time) (pos step) (pos (time + k * part)) (pos part) (eqb k 0) (eqb (k + 1) (step / part)))
get-run_ops component phase time step None zero part some below is =
    let start : time + 0 * step ≡ time = omega arith in
    rw (is, start, div_self some) refl
get-run_ops component phase time step None (suc k) part some below is = absurd (omega arith)
get-run_ops component phase time step (Some substep) k part some below is =
    let count = step / substep in
    let inside : k < count = omega (arith, length-run_ops component phase time step (Some substep)) in
    rw is
    (slice_get-map _ (range_with_len 0 count) k
    ∙ ap (option_map _) (slice_get-get_or (range_with_len 0 count) k 0 (omega (arith, length-range_with_len 0 count)) ∙ ap Some (get_or-range_with_len 0 count k 0 inside ∙ zero-add k)))

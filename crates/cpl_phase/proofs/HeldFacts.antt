-- What fields of a block hold once their rings are filled.
use Rattle.std.proofs.Common.{◌≡◌, ℕ, suc, ◌<◌, true, true≢false, List, [], ◌∷◌, ℤ, length, sym, subst, inl, inr, arith}
use Rattle.std.proofs.lemmas.Bool.{cases_Bool, eqb-true}
use Rattle.std.specs.List.{All}
use Rattle.std.specs.Prelude.{◌==◌, slice_index}
use Rattle.cpl_block.specs.Frames.{IsOwn, IsRinged}
use Rattle.cpl_block.specs.Laws.{IsFraming}
use Rattle.cpl_block.specs.declared.frame.Frame.{Frame}
use Rattle.cpl_comp.specs.Readings.{Reading}
use Rattle.cpl_comp.specs.Turns.{is_among}
use Rattle.cpl_comp.specs.Worlds.{FieldWorld, field_value}
use Rattle.cpl_sweep.specs.Places.{field_at}
use Rattle.cpl_rule.specs.Inputs.{HaveNumbers, HoldReading}
use Rattle.cpl_phase.specs.Refreshed.{AreRefilled}
use Rattle.cpl_phase.specs.Worlds.{HaveArrived, HoldFields}

-- a number stands at a place of a list
pub record StandsIn (numbers : List ℕ) (n : ℕ) : Type 0 where
  pub j : ℕ
  pub within : j < length numbers
  pub is : slice_index numbers j ≡ n

-- one that is among others stands somewhere
among-at : (numbers : List ℕ) (n : ℕ) → is_among numbers n ≡ true → StandsIn numbers n
among-at [] n among = absurd (true≢false (sym among))
among-at (k ∷ numbers) n among = elim (cases_Bool (k == n)) [
  | inl same ↦ record { j = 0; within = omega arith; is = eqb-true k n same }
  | inr other ↦
      let later = among-at numbers n (rw other at among) in
      record { j = suc later.j; within = (let below = later.within in omega arith); is = later.is }
]

module _ (frame : Frame) (count : ℕ) (halo : List ℕ) (world : List FieldWorld) (old new : List (List ℤ)) (laws : IsFraming frame)
    (filled : AreRefilled frame halo old new) (few : All (λ k. k < count) halo) (hold : HoldFields frame count world old) where
  -- own values stay
  pub own-refilled : (k : ℕ) → k < count → IsOwn frame (field_value world k) (field_at new k)
  own-refilled k below = filled.own k (field_value world k) (laws.held (field_value world k) (field_at old k) (hold.values k below))

  pub hold-refilled : HoldFields frame count world new
  hold-refilled = record {
    number = hold.number;
    values = λ k below. laws.listed (field_value world k) (field_at new k) (own-refilled k below);
  }

  -- a field of the halo has all values
  ringed-refilled : HaveArrived frame halo world old → (k : ℕ) → is_among halo k ≡ true → IsRinged frame (field_value world k) (field_at new k)
  ringed-refilled arrived k among =
      let stands = among-at halo k among in
      let at = slice_index halo stands.j in
      let below : at < count = few stands.j 0 stands.within in
      let P : ℕ → Type 0 = λ n. IsRinged frame (field_value world n) (field_at new n) in
      subst P stands.is (filled.ringed stands.j (field_value world at) stands.within
      (laws.held (field_value world at) (field_at old at) (hold.values at below)) (arrived stands.j stands.within))

  pub reading-refilled : (reading : Reading) → reading.value ≡ field_value world → HaveArrived frame halo world old → HaveNumbers frame count new
      → HoldReading frame count halo reading new
  reading-refilled reading same arrived numbers = record {
    own = λ k below.
        let P : (ℕ → ℕ → ℤ) → Type 0 = λ value. IsOwn frame (value k) (field_at new k) in
        subst P (sym same) (own-refilled k below);
    ringed = λ k among.
        let P : (ℕ → ℕ → ℤ) → Type 0 = λ value. IsRinged frame (value k) (field_at new k) in
        subst P (sym same) (ringed-refilled arrived k among);
    numbers = numbers;
  }

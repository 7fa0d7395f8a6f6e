-- What a prepared divisor keeps.
use Rattle.std.specs.Prelude.{◌≡◌, ℕ, ◌-◌, ◌*◌, ◌/◌, ◌^◌, ◌≤◌}

-- at most a thousand million units, in thousandths, and how often twice that goes into the greatest number of 64 bits
pub record IsPrepared (thousandths reciprocal : ℕ) : Type 0 where
  pub some : 1 ≤ thousandths
  pub few : thousandths ≤ 1000000000000
  pub reciprocal_is : reciprocal ≡ (2 ^ 64 - 1) / (2 * thousandths)

-- The numbers of a coupled run: whole millionths within a range.
use Rattle.std.specs.Prelude.{ℕ, ℤ, pos, neg_ℤ, ◌≤◌, unsigned_abs}
use Rattle.std.specs.Int.{int_min, int_max}
use Rattle.cpl_base.specs.declared.value.TheConstants.{GREATEST, MILLION}

-- a unit has so many millionths
abbrev pub million : ℕ
million = MILLION

-- the greatest value: a thousand million units
abbrev pub greatest : ℕ
greatest = GREATEST

-- a value lies between minus the greatest and the greatest, both included
abbrev pub IsValue : ℤ → Type 0
IsValue z = unsigned_abs z ≤ greatest

-- the nearest value
abbrev pub clip : ℤ → ℤ
clip z = int_max (neg_ℤ (pos greatest)) (int_min z (pos greatest))

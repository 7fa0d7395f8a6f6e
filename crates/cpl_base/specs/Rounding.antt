-- Quotients rounded to the nearest whole number, and products and quotients of values.
use Rattle.std.specs.Prelude.{◌≡◌, ℕ, ℤ, pos, negsuc, neg_ℤ, zero, suc, ◌+◌, ◌-◌, ◌*◌, ◌/◌, ◌≤◌, ◌+ℤ◌, ◌*ℤ◌, Bool, true, false}
use Rattle.std.specs.Int.{int_div_euclid}
use Rattle.cpl_base.specs.Numbers.{IsValue, clip, million}

-- the whole number nearest to n / d, for d above 0: a half goes up
abbrev pub near_of : ℤ → ℤ → ℤ
near_of n d = int_div_euclid (pos 2 *ℤ n +ℤ d) (pos 2 *ℤ d)

-- the product of two values, both in millionths
abbrev pub product_of : ℤ → ℤ → ℤ
product_of a b = clip (near_of (a *ℤ b) (pos million))

-- the quotient of two values, both in millionths; 0 where the divisor is
abbrev pub quotient_of : ℤ → ℤ → ℤ
quotient_of a (pos zero) = pos 0
quotient_of a (pos (suc b)) = clip (near_of (a *ℤ pos million) (pos (suc b)))
quotient_of a (negsuc b) = clip (near_of (neg_ℤ (a *ℤ pos million)) (pos (suc b)))

-- the size of a quotient that is rounded to the nearest: a half goes away from 0 or towards it
abbrev pub nearest_size : Bool → ℕ → ℕ → ℕ
nearest_size true size d = (2 * size + d) / (2 * d)
nearest_size false size d = (2 * size + d - 1) / (2 * d)

-- a divisor that can be prepared: a whole number of thousandths above 0, in millionths
pub record IsThousandths (d : ℤ) : Type 0 where
  pub thousandths : ℕ
  pub some : 1 ≤ thousandths
  pub is : d ≡ pos (1000 * thousandths)
  pub value : IsValue d

-- The whole number nearest to a quotient: by one division, and between two ends.
use Rattle.std.proofs.Common.{◌≡◌, ℕ, ℤ, pos, negsuc, neg_ℤ, ◌+◌, ◌-◌, ◌*◌, ◌/◌, ◌%◌, ◌<◌, ◌≤◌, ◌+ℤ◌, ◌*ℤ◌, ◌≤ℤ◌, sym, ap, ◌∙◌, arith, inl, inr}
use Rattle.std.proofs.Math.Nat.{mul-le-mul_right}
use Rattle.std.proofs.lemmas.Bool.{cases_lt}
use Rattle.std.proofs.lemmas.Int.{ints}
use Rattle.std.proofs.lemmas.Nat.{div-add-mod', div-mul-add, mod_below}
use Rattle.std.specs.Int.{int_div_euclid}
use Rattle.cpl_base.specs.Rounding.{near_of}

-- a number is so many whole divisors and a rest
record HasRest (z : ℤ) (d : ℕ) (whole : ℤ) : Type 0 where
  rest : ℕ
  below : rest < d
  is : z ≡ whole *ℤ pos d +ℤ pos rest

-- the quotient leaves a rest
div-rest : (z : ℤ) (d : ℕ) → 0 < d → HasRest z d (int_div_euclid z (pos d))
div-rest (pos a) d some = record { rest = a % d; below = mod_below a d some; is = ap pos (sym (div-add-mod' a d)) }
div-rest (negsuc a) d some =
    let whole = div-add-mod' a d in
    let below = mod_below a d some in
    record { rest = d - 1 - a % d; below = omega (arith, below); is = omega (arith, ints, whole, below) }

-- what leaves a rest is the quotient
div-is : (whole z : ℤ) (d rest : ℕ) → rest < d → z ≡ whole *ℤ pos d +ℤ pos rest → int_div_euclid z (pos d) ≡ whole
div-is (pos k) z d rest below is = ap (λ x. int_div_euclid x (pos d)) is ∙ ap pos (div-mul-add k d rest below)
div-is (negsuc k) z d rest below is =
    let same : z ≡ negsuc (k * d + (d - 1 - rest)) = omega (arith, ints) in
    ap (λ x. int_div_euclid x (pos d)) same ∙ ap negsuc (div-mul-add k d (d - 1 - rest) (omega arith))

-- twice as many of a divisor
twice : (whole : ℤ) (d : ℕ) → whole *ℤ pos (2 * d) ≡ pos 2 *ℤ (whole *ℤ pos d)
twice (pos k) d = omega (arith, ints)
twice (negsuc k) d = omega (arith, ints)

-- the nearest number by one division, of a number to which half the divisor is added
pub near_of-division : (n : ℤ) (d : ℕ) → 0 < d → int_div_euclid (n +ℤ pos (d / 2)) (pos d) ≡ near_of n (pos d)
near_of-division n d some =
    let half = div-add-mod' d 2 in
    let odd = mod_below d 2 (omega arith) in
    let whole = int_div_euclid (n +ℤ pos (d / 2)) (pos d) in
    let has = div-rest (n +ℤ pos (d / 2)) d some in
    let is = has.is in
    let below = has.below in
    let double = twice whole d in
    sym (div-is whole (pos 2 *ℤ n +ℤ pos d) (2 * d) (2 * has.rest + d % 2) (omega (arith, odd)) (omega (arith, ints, half)))

-- a quotient of what is at most so many divisors
high-of : (whole n : ℤ) (d high rest : ℕ) → 0 < d → pos 2 *ℤ n +ℤ pos d ≡ whole *ℤ pos (2 * d) +ℤ pos rest → n ≤ℤ pos (d * high) → whole ≤ℤ pos high
high-of (negsuc k) n d high rest some is at_most = omega (arith, ints)
high-of (pos k) n d high rest some is at_most = elim (cases_lt high k) [
  | inl more ↦
      let product : (high + 1) * (2 * d) ≤ k * (2 * d) = mul-le-mul_right (2 * d) (omega arith) in
      absurd (omega (arith, ints, product))
  | inr few ↦ omega (arith, ints)
]

low-of : (whole n : ℤ) (d low rest : ℕ) → 0 < d → rest < 2 * d → pos 2 *ℤ n +ℤ pos d ≡ whole *ℤ pos (2 * d) +ℤ pos rest → neg_ℤ (pos (d * low)) ≤ℤ n → neg_ℤ (pos low) ≤ℤ whole
low-of (pos k) n d low rest some below is at_least = omega (arith, ints)
low-of (negsuc k) n d low rest some below is at_least = elim (cases_lt k low) [
  | inl few ↦ omega (arith, ints)
  | inr more ↦
      let product : (low + 1) * (2 * d) ≤ (k + 1) * (2 * d) = mul-le-mul_right (2 * d) (omega arith) in
      absurd (omega (arith, ints, product))
]

-- the nearest number of what is at most so many divisors
pub near_of-high : (n : ℤ) (d high : ℕ) → 0 < d → n ≤ℤ pos (d * high) → near_of n (pos d) ≤ℤ pos high
near_of-high n d high some at_most =
    let has = div-rest (pos 2 *ℤ n +ℤ pos d) (2 * d) (omega arith) in
    high-of (near_of n (pos d)) n d high has.rest some has.is at_most

-- and of what is at least so many below 0
pub near_of-low : (n : ℤ) (d low : ℕ) → 0 < d → neg_ℤ (pos (d * low)) ≤ℤ n → neg_ℤ (pos low) ≤ℤ near_of n (pos d)
near_of-low n d low some at_least =
    let has = div-rest (pos 2 *ℤ n +ℤ pos d) (2 * d) (omega arith) in
    low-of (near_of n (pos d)) n d low has.rest some has.below has.is at_least

-- Quotients by a reciprocal, and quotients of values in thousandths.
use Rattle.std.proofs.Common.{◌≡◌, ℕ, ℤ, pos, negsuc, unsigned_abs, int_le, ◌+◌, ◌-◌, ◌*◌, ◌/◌, ◌%◌, ◌^◌, ◌<◌, ◌≤◌, Bool, true, false, sym, ap, ◌∙◌, arith}
use Rattle.std.proofs.Math.Nat.{mul-le-mul_left, mul-le-mul_right, mul-lt-mul_of_pos_right}
use Rattle.std.proofs.lemmas.Bool.{false≢true, leb-false}
use Rattle.std.proofs.lemmas.Nat.{div-add-mod', div-mul-add, mod_below}
use Rattle.cpl_base.specs.Rounding.{nearest_size}

-- how often a divisor goes into the numbers of 64 bits, and a guess by that
abbrev pub goes : ℕ → ℕ
goes by = (2 ^ 64 - 1) / by

abbrev pub guess : ℕ → ℕ → ℕ
guess by n = n * goes by / 2 ^ 64

-- the guess is no greater than the quotient
pub guess-low : (by n : ℕ) → 1 ≤ by → guess by n * by ≤ n
guess-low by n some =
    let r = goes by in
    let g = guess by n in
    let whole = div-add-mod' (2 ^ 64 - 1) by in
    let part = div-add-mod' (n * r) (2 ^ 64) in
    let below : r * by ≤ 2 ^ 64 - 1 = omega (arith, whole) in
    let above : g * 2 ^ 64 ≤ n * r = omega (arith, part) in
    let a = mul-le-mul_right by above in
    let b = mul-le-mul_left n below in
    omega (arith, a, b)

-- and at most one less
pub guess-high : (by n : ℕ) → 1 ≤ by → n < 2 ^ 64 → n < guess by n * by + 2 * by
guess-high by n some small =
    let r = goes by in
    let g = guess by n in
    let whole = div-add-mod' (2 ^ 64 - 1) by in
    let rest = mod_below (2 ^ 64 - 1) by (omega arith) in
    let part = div-add-mod' (n * r) (2 ^ 64) in
    let left = mod_below (n * r) (2 ^ 64) (omega arith) in
    let above : 2 ^ 64 ≤ r * by + by = omega (arith, whole, rest) in
    let below : n * r < (g + 1) * 2 ^ 64 = omega (arith, part, left) in
    let a = mul-lt-mul_of_pos_right below some in
    let b = mul-le-mul_left n above in
    let c = mul-lt-mul_of_pos_right small some in
    omega (arith, a, b, c)

-- the guess is the quotient, where less than the divisor is left
pub guess-is : (by n : ℕ) → 1 ≤ by → n - guess by n * by < by → guess by n ≡ n / by
guess-is by n some short =
    let low = guess-low by n some in
    let g = guess by n in
    let is : n ≡ g * by + (n - g * by) = omega (arith, low) in
    sym (ap (λ x. x / by) is ∙ div-mul-add g by (n - g * by) short)

-- else it is one less
pub guess-less : (by n : ℕ) → 1 ≤ by → n < 2 ^ 64 → by ≤ n - guess by n * by → guess by n + 1 ≡ n / by
guess-less by n some small long =
    let low = guess-low by n some in
    let high = guess-high by n some small in
    let g = guess by n in
    let is : n ≡ (g + 1) * by + (n - g * by - by) = omega (arith, low) in
    sym (ap (λ x. x / by) is ∙ div-mul-add (g + 1) by (n - g * by - by) (omega (arith, high)))

-- a quotient of thousands
div-thousands : (x y : ℕ) → 0 < y → (1000 * x) / (1000 * y) ≡ x / y
div-thousands x y some =
    let whole = div-add-mod' x y in
    let rest = mod_below x y some in
    let q = x / y in
    let is : 1000 * x ≡ q * (1000 * y) + 1000 * (x % y) = omega (arith, ap (λ z. 1000 * z) whole) in
    ap (λ z. z / (1000 * y)) is ∙ div-mul-add q (1000 * y) (1000 * (x % y)) (omega (arith, rest))

-- one less than thousands
div-below_thousands : (x y : ℕ) → 0 < y → (1000 * x + 999) / (1000 * y) ≡ x / y
div-below_thousands x y some =
    let whole = div-add-mod' x y in
    let rest = mod_below x y some in
    let q = x / y in
    let is : 1000 * x + 999 ≡ q * (1000 * y) + (1000 * (x % y) + 999) = omega (arith, ap (λ z. 1000 * z) whole) in
    ap (λ z. z / (1000 * y)) is ∙ div-mul-add q (1000 * y) (1000 * (x % y) + 999) (omega (arith, rest))

-- the half that is added to a size, by how a half goes
abbrev pub half_of : Bool → ℕ → ℕ
half_of true thousandths = thousandths
half_of false thousandths = thousandths - 1

-- the size of a value's quotient, by thousandths
pub nearest_size-thousandths : (half_up : Bool) (size thousandths : ℕ) → 1 ≤ thousandths → (2000 * size + half_of half_up thousandths) / (2 * thousandths) ≡ nearest_size half_up (size * 1000000) (1000 * thousandths)
nearest_size-thousandths true size t some =
    let up : 1000 * (2000 * size + t) ≡ 2 * (size * 1000000) + 1000 * t = omega arith in
    let down : 1000 * (2 * t) ≡ 2 * (1000 * t) = omega arith in
    sym (div-thousands (2000 * size + t) (2 * t) (omega arith)) ∙ (λ i. up i / down i)
nearest_size-thousandths false size t some =
    let up : 1000 * (2000 * size + (t - 1)) + 999 ≡ 2 * (size * 1000000) + 1000 * t - 1 = omega arith in
    let down : 1000 * (2 * t) ≡ 2 * (1000 * t) = omega arith in
    sym (div-below_thousands (2000 * size + (t - 1)) (2 * t) (omega arith)) ∙ (λ i. up i / down i)

-- a divisor above 0 that is a whole number of thousandths is what it is prepared as
pub prepared-is : (d : ℤ) (size : ℕ) → size ≡ unsigned_abs d → int_le d (pos 0) ≡ false → size % 1000 ≡ 0 → pos (1000 * (size / 1000)) ≡ d
prepared-is (pos n) size is above whole =
    let parts = div-add-mod' size 1000 in
    let same : 1000 * (size / 1000) ≡ n = omega (arith, parts) in
    ap pos same
prepared-is (negsuc n) size is above whole = absurd (false≢true (sym above))

-- and it has a thousandth
pub prepared-some : (d : ℤ) (size : ℕ) → size ≡ unsigned_abs d → int_le d (pos 0) ≡ false → size % 1000 ≡ 0 → 1 ≤ size / 1000
prepared-some (pos n) size is above whole =
    let parts = div-add-mod' size 1000 in
    let some : 0 < n = leb-false n 0 above in
    omega (arith, parts)
prepared-some (negsuc n) size is above whole = absurd (false≢true (sym above))

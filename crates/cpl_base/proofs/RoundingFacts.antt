-- Quotients rounded to the nearest, by whole quotients and rests, and by signs and sizes.
use Rattle.std.proofs.Common.{◌≡◌, ℕ, ◌+◌, ◌-◌, ◌*◌, ◌/◌, ◌%◌, ◌<◌, ◌≤◌, Bool, true, false, not, leb, ltb, ℤ, pos, negsuc, neg_ℤ, ◌+ℤ◌, ◌*ℤ◌, ◌<ℤ◌, min, unsigned_abs, refl, sym, ap, ◌∙◌, arith, zero, suc, inl, inr}
use Rattle.std.proofs.lemmas.Bool.{cases_Bool, cases_lt, false≢true, le-ltb, leb-false, leb-true, ltb-false, ltb-true}
use Rattle.std.proofs.lemmas.Int.{clamps, ints}
use Rattle.std.proofs.lemmas.Nat.{div-add-mod', div-mul-add, mod_below}
use Rattle.std.specs.Bool.{beq}
use Rattle.std.specs.Int.{int_div_euclid, is_negative}
use Rattle.cpl_base.specs.Numbers.{clip, greatest, million}
use Rattle.cpl_base.specs.Numerals.{signed_integer}
use Rattle.cpl_base.specs.Rounding.{near_of, nearest_size, quotient_of}

-- a number in whole divisors and a rest
div-is : (x whole rest d : ℕ) → x ≡ whole * d + rest → rest < d → x / d ≡ whole
div-is x whole rest d is below = ap (λ y. y / d) is ∙ div-mul-add whole d rest below

-- a rest of half the divisor and above is rounded up, where a half goes up
pub nearest_size-up_more : (size d : ℕ) → 0 < d → d - size % d ≤ size % d → nearest_size true size d ≡ size / d + 1
nearest_size-up_more size d some passes =
    let whole = div-add-mod' size d in
    let below = mod_below size d some in
    div-is (2 * size + d) (size / d + 1) (2 * (size % d) - d) (2 * d) (omega (arith, whole, below)) (omega (arith, below))

-- one below half isn't
pub nearest_size-up_less : (size d : ℕ) → 0 < d → size % d < d - size % d → nearest_size true size d ≡ size / d
nearest_size-up_less size d some short =
    let whole = div-add-mod' size d in
    div-is (2 * size + d) (size / d) (2 * (size % d) + d) (2 * d) (omega (arith, whole)) (omega arith)

-- a rest above half is rounded up, where a half goes down
pub nearest_size-down_more : (size d : ℕ) → 0 < d → d - size % d < size % d → nearest_size false size d ≡ size / d + 1
nearest_size-down_more size d some passes =
    let whole = div-add-mod' size d in
    let below = mod_below size d some in
    div-is (2 * size + d - 1) (size / d + 1) (2 * (size % d) - d - 1) (2 * d) (omega (arith, whole, below)) (omega (arith, below))

-- a half or less isn't
pub nearest_size-down_less : (size d : ℕ) → 0 < d → size % d ≤ d - size % d → nearest_size false size d ≡ size / d
nearest_size-down_less size d some short =
    let whole = div-add-mod' size d in
    let below = mod_below size d some in
    div-is (2 * size + d - 1) (size / d) (2 * (size % d) + d - 1) (2 * d) (omega (arith, whole, below)) (omega (arith, below))

-- whether the rest passes, by how a half goes
abbrev pub passes_at : Bool → ℕ → ℕ → Bool
passes_at true size d = leb (d - size % d) (size % d)
passes_at false size d = ltb (d - size % d) (size % d)

-- what is rounded up
pub nearest_size-more : (half_up : Bool) (size d : ℕ) → 0 < d → passes_at half_up size d ≡ true → size / d + 1 ≡ nearest_size half_up size d
nearest_size-more true size d some passes = sym (nearest_size-up_more size d some (leb-true (d - size % d) (size % d) passes))
nearest_size-more false size d some passes = sym (nearest_size-down_more size d some (ltb-true (d - size % d) (size % d) passes))

-- what isn't
pub nearest_size-less : (half_up : Bool) (size d : ℕ) → 0 < d → passes_at half_up size d ≡ false → size / d ≡ nearest_size half_up size d
nearest_size-less true size d some short = sym (nearest_size-up_less size d some (leb-false (d - size % d) (size % d) short))
nearest_size-less false size d some short = sym (nearest_size-down_less size d some (ltb-false (d - size % d) (size % d) short))

-- a double below zero and a divisor, where the double is no greater
below-small : (m d : ℕ) → 2 * suc m ≤ d → pos 2 *ℤ negsuc m +ℤ pos d ≡ pos (d - 2 * suc m)
below-small m d small = omega (arith, ints)

-- and where it is greater
below-large : (m d : ℕ) → d < 2 * suc m → pos 2 *ℤ negsuc m +ℤ pos d ≡ negsuc (2 * suc m - d - 1)
below-large m d large = omega (arith, ints)

-- a sign on a size that is rounded
pub near_of-signed : (minus : Bool) (size d : ℕ) → 0 < d → near_of (signed_integer minus size) (pos d) ≡ signed_integer minus (nearest_size (not minus) size d)
near_of-signed false size d some = refl
near_of-signed true zero d some =
    let low = div-is (0 + d) 0 d (2 * d) (omega arith) (omega arith) in
    let high = div-is (0 + d - 1) 0 (d - 1) (2 * d) (omega arith) (omega arith) in
    ap pos low ∙ sym (ap (λ k. neg_ℤ (pos k)) high)
near_of-signed true (suc m) d some = elim (cases_lt d (2 * suc m)) [
  | inl large ↦
      let below = 2 * suc m - d - 1 in
      let whole = div-add-mod' below (2 * d) in
      let rest = mod_below below (2 * d) (omega arith) in
      let more = div-is (2 * suc m + d - 1) (suc (below / (2 * d))) (below % (2 * d)) (2 * d) (omega (arith, whole)) rest in
      ap (λ z. int_div_euclid z (pos (2 * d))) (below-large m d large) ∙ sym (ap (λ k. neg_ℤ (pos k)) more)
  | inr small ↦
      let low = div-is (d - 2 * suc m) 0 (d - 2 * suc m) (2 * d) (omega arith) (omega arith) in
      let high = div-is (2 * suc m + d - 1) 0 (2 * suc m + d - 1) (2 * d) (omega arith) (omega arith) in
      ap (λ z. int_div_euclid z (pos (2 * d))) (below-small m d small) ∙ ap pos low ∙ sym (ap (λ k. neg_ℤ (pos k)) high)
]

-- a number below zero, by its size
pub near_of-below : (n d : ℤ) (s e size : ℕ) → is_negative n ≡ true → pos 0 <ℤ d → s ≡ unsigned_abs n → e ≡ unsigned_abs d → size ≡ nearest_size (not (is_negative n)) s e → neg_ℤ (pos size) ≡ near_of n d
near_of-below (pos m) d s e size minus above is_s is_e is = absurd (false≢true (sym (le-ltb m 0 (omega arith)) ∙ minus))
near_of-below (negsuc m) (negsuc k) s e size minus above is_s is_e is = absurd (omega (arith, ints))
near_of-below (negsuc m) (pos k) s e size minus above is_s is_e is =
    let some : 0 < k = omega (arith, ints) in
    ap (λ x. neg_ℤ (pos x)) (is ∙ (λ j. nearest_size false (is_s j) (is_e j))) ∙ sym (near_of-signed true (suc m) k some)

-- the nearest value of a sign and a size
clip-signed : (minus : Bool) (n : ℕ) → clip (signed_integer minus n) ≡ signed_integer minus (min n greatest)
clip-signed true n = omega (arith, ints, clamps)
clip-signed false n = omega (arith, ints, clamps)

-- a sign and a size, rounded and clipped
rounded-signed : (minus : Bool) (size d : ℕ) → 0 < d → signed_integer minus (min (nearest_size (not minus) size d) greatest) ≡ clip (near_of (signed_integer minus size) (pos d))
rounded-signed minus size d some = sym (ap clip (near_of-signed minus size d some) ∙ clip-signed minus (nearest_size (not minus) size d))

-- the same from an equal sign and equal sizes
rounded-by : (m minus : Bool) (s size e d : ℕ) → m ≡ minus → s ≡ size → e ≡ d → 0 < d → signed_integer m (min (nearest_size (not m) (s * million) e) greatest) ≡ clip (near_of (signed_integer minus (size * million)) (pos d))
rounded-by m minus s size e d is_m is_s is_e some =
    (λ j. signed_integer (is_m j) (min (nearest_size (not (is_m j)) (is_s j * million) (is_e j)) greatest)) ∙ rounded-signed minus (size * million) d some

-- numbers from 0 on aren't negative
is_negative-pos : (n : ℕ) → is_negative (pos n) ≡ false
is_negative-pos n = le-ltb n 0 (omega arith)

-- a number from 0 on, turned twice
neg_ℤ-neg_ℤ : (n : ℕ) → neg_ℤ (neg_ℤ (pos n)) ≡ pos n
neg_ℤ-neg_ℤ zero = refl
neg_ℤ-neg_ℤ (suc n) = refl

-- the sign of a quotient is minus where just one of the numbers is negative
abbrev pub differ : ℤ → ℤ → Bool
differ a b = not (beq (is_negative a) (is_negative b))

-- the quotient of two numbers, by their signs and sizes
pub quotient_of-signed : (a b : ℤ) (s e : ℕ) → (b ≡ pos 0 → ⊥) → s ≡ unsigned_abs a → e ≡ unsigned_abs b
    → signed_integer (differ a b) (min (nearest_size (not (differ a b)) (s * million) e) greatest) ≡ quotient_of a b
quotient_of-signed a (pos zero) s e nonzero is_s is_e = absurd (nonzero refl)
quotient_of-signed (pos x) (pos (suc y)) s e nonzero is_s is_e =
    let at_x = is_negative-pos x in
    let at_y = is_negative-pos (suc y) in
    rounded-by (differ (pos x) (pos (suc y))) false s x e (suc y) (λ j. not (beq (at_x j) (at_y j))) is_s is_e (omega arith)
quotient_of-signed (negsuc x) (pos (suc y)) s e nonzero is_s is_e =
    let at_y = is_negative-pos (suc y) in
    rounded-by (differ (negsuc x) (pos (suc y))) true s (suc x) e (suc y) (λ j. not (beq true (at_y j))) is_s is_e (omega arith)
quotient_of-signed (pos zero) (negsuc y) s e nonzero is_s is_e =
    rounded-by (differ (pos zero) (negsuc y)) true s zero e (suc y) refl is_s is_e (omega arith)
quotient_of-signed (pos (suc x)) (negsuc y) s e nonzero is_s is_e =
    let at_x = is_negative-pos (suc x) in
    rounded-by (differ (pos (suc x)) (negsuc y)) true s (suc x) e (suc y) (λ j. not (beq (at_x j) true)) is_s is_e (omega arith)
quotient_of-signed (negsuc x) (negsuc y) s e nonzero is_s is_e =
    rounded-by (differ (negsuc x) (negsuc y)) false s (suc x) e (suc y) refl is_s is_e (omega arith)
    ∙ ap (λ z. clip (near_of z (pos (suc y)))) (sym (neg_ℤ-neg_ℤ (suc x * million)))

-- a sign of a value and its size, divided by a number above 0
pub quotient_of-positive : (a : ℤ) (s e : ℕ) → 0 < e → s ≡ unsigned_abs a → signed_integer (is_negative a) (min (nearest_size (not (is_negative a)) (s * million) e) greatest) ≡ quotient_of a (pos e)
quotient_of-positive a s zero some is_s = absurd (omega arith)
quotient_of-positive a s (suc y) some is_s =
    let same : differ a (pos (suc y)) ≡ is_negative a = elim (cases_Bool (is_negative a)) [
      | inl below ↦ rw (is_negative-pos (suc y), below) refl
      | inr above ↦ rw (is_negative-pos (suc y), above) refl
    ] in
    sym (ap (λ m. signed_integer m (min (nearest_size (not m) (s * million) (suc y)) greatest)) same) ∙ quotient_of-signed a (pos (suc y)) s (suc y) (λ e. absurd (cc)) is_s refl

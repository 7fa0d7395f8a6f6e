-- A product by a whole factor needs no division.
use Rattle.std.proofs.Common.{◌≡◌, ℕ, zero, suc, ℤ, pos, negsuc, neg_ℤ, ◌+◌, ◌*◌, ◌/◌, ◌+ℤ◌, ◌*ℤ◌, refl, sym, ap, ◌∙◌, arith}
use Rattle.std.proofs.Math.Nat.{mul_assoc}
use Rattle.std.proofs.lemmas.Int.{ints}
use Rattle.std.proofs.lemmas.Nat.{div-mul-add}
use Rattle.std.specs.Int.{int_div_euclid}
use Rattle.cpl_base.specs.Numbers.{clip, million}
use Rattle.cpl_base.specs.Rounding.{near_of, product_of}

-- ---- products with numbers that aren't above 0

pos-neg : (x n : ℕ) → pos x *ℤ neg_ℤ (pos n) ≡ neg_ℤ (pos (x * n))
pos-neg x zero = let none : x * 0 ≡ 0 = omega arith in rw none refl
pos-neg x (suc n) = refl

neg-pos : (n m : ℕ) → neg_ℤ (pos n) *ℤ pos m ≡ neg_ℤ (pos (n * m))
neg-pos zero m = let none : 0 * m ≡ 0 = omega arith in rw none refl
neg-pos (suc n) m = refl

negsuc-neg : (x n : ℕ) → negsuc x *ℤ neg_ℤ (pos n) ≡ pos (suc x * n)
negsuc-neg x zero = let none : suc x * 0 ≡ 0 = omega arith in rw none refl
negsuc-neg x (suc n) = refl

-- a product by a number of millions
product-millions : (a b : ℤ) (m : ℕ) → a *ℤ (b *ℤ pos m) ≡ (a *ℤ b) *ℤ pos m
product-millions (pos x) (pos y) m = ap pos (sym (mul_assoc x y m))
product-millions (pos x) (negsuc y) m =
    pos-neg x (suc y * m) ∙ ap (λ n. neg_ℤ (pos n)) (sym (mul_assoc x (suc y) m)) ∙ sym (neg-pos (x * suc y) m)
product-millions (negsuc x) (pos y) m =
    ap (λ n. neg_ℤ (pos n)) (sym (mul_assoc (suc x) y m)) ∙ sym (neg-pos (suc x * y) m)
product-millions (negsuc x) (negsuc y) m =
    negsuc-neg x (suc y * m) ∙ ap pos (sym (mul_assoc (suc x) (suc y) m))

-- ---- rounding

-- a whole number of millions, in millions
near_of-whole : (z : ℤ) → near_of (z *ℤ pos million) (pos million) ≡ z
near_of-whole (pos x) =
    let double : 2 * (x * 1000000) + 1000000 ≡ x * 2000000 + 1000000 = omega arith in
    ap (λ n. pos (n / 2000000)) double ∙ ap pos (div-mul-add x 2000000 1000000 (omega arith))
near_of-whole (negsuc x) =
    let double : pos 2 *ℤ (negsuc x *ℤ pos million) +ℤ pos million ≡ negsuc (x * 2000000 + 999999) = omega (arith, ints) in
    ap (λ n. int_div_euclid n (pos 2000000)) double ∙ ap negsuc (div-mul-add x 2000000 999999 (omega arith))

pub product_of-whole : (a factor : ℤ) → clip (a *ℤ factor) ≡ product_of a (factor *ℤ pos million)
product_of-whole a factor =
    ap clip (sym (near_of-whole (a *ℤ factor)))
    ∙ ap (λ n. clip (near_of n (pos million))) (sym (product-millions a factor million))

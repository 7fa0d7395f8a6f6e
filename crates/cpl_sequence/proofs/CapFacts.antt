-- Products that are capped at each step.
use Rattle.std.proofs.Common.{◌≡◌, ℕ, zero, suc, ◌*◌, ◌≤◌, min, refl, ap, inl, inr, arith}
use Rattle.std.proofs.lemmas.Bool.{cases_lt}

-- a product with a capped number
pub min-mul-min : (a b m : ℕ) → min (a * min b m) m ≡ min (a * b) m
min-mul-min zero b m = omega arith
min-mul-min (suc a) b m = elim (cases_lt b m) [
  | inl below ↦ ap (λ x. min (suc a * x) m) (let h : min b m ≡ b = omega arith in h)
  | inr above ↦
      let capped : min b m ≡ m = omega arith in
      let big : m ≤ suc a * m = grind arith in
      let bigger : m ≤ suc a * b = grind arith in
      let left : min (suc a * m) m ≡ m = omega (arith, big) in
      let right : min (suc a * b) m ≡ m = omega (arith, bigger) in
      rw (capped, left, right) refl
]

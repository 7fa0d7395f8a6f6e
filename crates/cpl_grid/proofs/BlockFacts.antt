-- Where a block starts, and which block holds a place.
use Rattle.std.proofs.Common.{◌≡◌, ℕ, zero, suc, ◌+◌, ◌-◌, ◌*◌, ◌/◌, ◌%◌, ◌<◌, ◌≤◌, min, ltb, cond, map, sum_by, refl, sym, ap, subst, ◌∙◌, inl, inr, arith, zero-add}
use Rattle.std.proofs.lemmas.Bool.{cases_lt, lt-ltb, le-ltb}
use Rattle.std.proofs.Math.Nat.{mul_comm}
use Rattle.std.proofs.lemmas.Nat.{div-add-mod', mod_below, div_below}
use Rattle.std.specs.List.{range_with_len}
use Rattle.cpl_grid.specs.Blocks.{block_at, block_length, block_start, holder, lengths, numbers_below}
use Rattle.cpl_grid.proofs.RangeFacts.{sum_by-range_suc}

-- a block starts where the one before it ends
pub block_start-suc : (n m b : ℕ) → block_start n m (suc b) ≡ block_start n m b + block_length n m b
unfolding block_start
block_start-suc n m b =
    sum_by-range_suc (block_length n m) 0 b ∙ ap (λ k. sum_by (block_length n m) (numbers_below b) + block_length n m k) (zero-add b)

-- one block more, in numbers
start_more : (q r b : ℕ) → b * q + min b r + cond (ltb b r) (q + 1) q ≡ suc b * q + min (suc b) r
start_more q r b = elim (cases_lt b r) [
  | inl longer ↦ rw (lt-ltb b r longer) (omega arith)
  | inr even ↦ rw (le-ltb b r even) (omega arith)
]

-- where a block starts, in numbers
pub block_start-is : (n m b : ℕ) → block_start n m b ≡ b * (n / m) + min b (n % m)
unfolding block_start
block_start-is n m zero = omega arith
block_start-is n m (suc b) =
    block_start-suc n m b ∙ ap (λ s. s + block_length n m b) (block_start-is n m b) ∙ start_more (n / m) (n % m) b

-- the blocks end with the last place
pub block_start-all : (n m : ℕ) → 1 ≤ m → block_start n m m ≡ n
block_start-all n m some = omega (arith, block_start-is n m m, div-add-mod' n m, mod_below n m some)

-- a block doesn't start before an earlier one
start_rises : (S f : ℕ → ℕ) → ((b : ℕ) → S (suc b) ≡ S b + f b) → (a k : ℕ) → S a ≤ S (a + k)
start_rises S f more a zero = let same : a + 0 ≡ a = omega arith in rw same (omega arith)
start_rises S f more a (suc k) =
    let next : a + suc k ≡ suc (a + k) = omega arith in
    rw (next, more (a + k)) (omega (arith, start_rises S f more a k))

-- a place is held by the block that has started and not ended there, counted from block a
holder-from : (S f : ℕ → ℕ) → ((b : ℕ) → S (suc b) ≡ S b + f b) → (k len a place : ℕ) → k < len → S (a + k) ≤ S a + place → S a + place < S (a + k) + f (a + k) → holder (map f (range_with_len a len)) place ≡ k
holder-from S f more zero (suc len) a place inside started not_ended =
    let same : a + 0 ≡ a = omega arith in
    let before : S a + place < S a + f a = rw same at not_ended in
    let short : place < f a = omega arith in rw (lt-ltb place (f a) short) refl
holder-from S f more (suc k) (suc len) a place inside started not_ended =
    let next : a + suc k ≡ a + 1 + k = omega arith in
    let started' = rw next at started in
    let not_ended' = rw next at not_ended in
    let one : a + 1 ≡ suc a = omega arith in
    let after : S (a + 1) ≡ S a + f a = ap S one ∙ more a in
    let rises = start_rises S f more (a + 1) k in
    let behind : f a ≤ place = omega arith in
    let rest = holder-from S f more k len (a + 1) (place - f a) (omega arith) (omega arith) (omega arith) in
    rw (le-ltb place (f a) behind, rest) (omega arith)
holder-from S f more k zero a place inside started not_ended = absurd (omega arith)

-- a block lies within the places
pub block-within : (n m b : ℕ) → b < m → block_start n m b + block_length n m b ≤ n
block-within n m b inside =
    let k = m - suc b in
    let all : m ≡ suc b + k = omega arith in
    let rises : block_start n m (suc b) ≤ block_start n m (suc b + k) = start_rises (block_start n m) (block_length n m) (block_start-suc n m) (suc b) k in
    let to_end : block_start n m (suc b) ≤ block_start n m m = subst (λ t. block_start n m (suc b) ≤ block_start n m t) (sym all) rises in
    omega (arith, block_start-suc n m b, block_start-all n m (omega arith))

-- a block has a place
pub record IsHolder (n m b place : ℕ) : Type 0 where
  pub inside : b < m
  pub started : block_start n m b ≤ place
  pub not_ended : place < block_start n m b + block_length n m b

-- the block that has a place holds it
pub holder-is : (n m b place : ℕ) → IsHolder n m b place → holder (lengths n m) place ≡ b
holder-is n m b place holds =
    let same : 0 + b ≡ b = zero-add b in
    let first : block_start n m 0 ≡ 0 = omega (arith, block_start-is n m 0) in
    let started : block_start n m (0 + b) ≤ block_start n m 0 + place = rw (same, first) (omega arith) in
    let not_ended : block_start n m 0 + place < block_start n m (0 + b) + block_length n m (0 + b) = rw (same, first) (omega arith) in
    holder-from (block_start n m) (block_length n m) (block_start-suc n m) b m 0 place holds.inside started not_ended

-- what makes a block have a place, in numbers
holds-from : (n m b place : ℕ) → b < m → b * (n / m) + min b (n % m) ≤ place → place < b * (n / m) + min b (n % m) + block_length n m b → IsHolder n m b place
holds-from n m b place inside started not_ended = record {
  inside = inside;
  started = omega (arith, block_start-is n m b);
  not_ended = omega (arith, block_start-is n m b);
}

-- the place stands in a block of the longer ones
in_longer : (q r place b : ℕ) → b ≡ place / (q + 1) → place < r * (q + 1) → (b < r) × (b * (q + 1) ≤ place) × (place < b * (q + 1) + (q + 1))
in_longer q r place b is early =
    let some : 0 < q + 1 = omega arith in
    let parts = div-add-mod' place (q + 1) in
    let rest = mod_below place (q + 1) some in
    let quotient : b * (q + 1) ≡ place / (q + 1) * (q + 1) = ap (λ k. k * (q + 1)) is in
    let below = div_below place (q + 1) r some early in
    (omega arith, omega arith, omega arith)

-- behind the longer ones there is a place only where the others have one
others_have : (q r e place : ℕ) → r * (q + 1) ≤ place → place < (r + e) * q + r → 0 < q
others_have zero r e place late inside = absurd (omega arith)
others_have (suc q) r e place late inside = omega arith

-- the place stands in a block of the others
in_others : (q r e place d : ℕ) → d ≡ (place - r * (q + 1)) / q → r * (q + 1) ≤ place → place < (r + e) * q + r → (d < e) × ((r + d) * q + r ≤ place) × (place < (r + d) * q + r + q)
in_others q r e place d is late inside =
    let some = others_have q r e place late inside in
    let t = place - r * (q + 1) in
    let parts = div-add-mod' t q in
    let rest = mod_below t q some in
    let short : t < e * q = omega arith in
    let quotient : d * q ≡ t / q * q = ap (λ k. k * q) is in
    let below = div_below t q e some short in
    (omega arith, omega arith, omega arith)

-- a place among the longer blocks, found by division
pub holds-longer : (n m place : ℕ) → 1 ≤ m → place < n % m * (n / m + 1) → IsHolder n m (place / (n / m + 1)) place
holds-longer n m place some early =
    let b = place / (n / m + 1) in
    let found = in_longer (n / m) (n % m) place b refl early in
    let longer = mod_below n m some in
    holds-from n m b place (omega arith) (omega arith) (rw (lt-ltb b (n % m) found.0) (omega arith))

-- a place among the other blocks, found by division
pub holds-others : (n m place : ℕ) → 1 ≤ m → place < n → n % m * (n / m + 1) ≤ place → IsHolder n m (n % m + (place - n % m * (n / m + 1)) / (n / m)) place
holds-others n m place some inside late =
    let q = n / m in
    let r = n % m in
    let d = (place - r * (q + 1)) / q in
    let e = m - r in
    let longer : r < m = mod_below n m some in
    let all : m ≡ r + e = omega arith in
    let whole : q * m + r ≡ n = div-add-mod' n m in
    let turned : q * m ≡ (r + e) * q = ap (λ k. q * k) all ∙ mul_comm q (r + e) in
    let found = in_others q r e place d refl late (omega arith) in
    let behind : r ≤ r + d = omega arith in
    holds-from n m (r + d) place (omega arith) (omega arith) (rw (le-ltb (r + d) r behind) (omega arith))

-- the holder of a place has it
pub holds-holder : (n m place : ℕ) → 1 ≤ m → place < n → IsHolder n m (holder (lengths n m) place) place
holds-holder n m place some inside = elim (cases_lt place (n % m * (n / m + 1))) [
  | inl early ↦ let found = holds-longer n m place some early in rw (holder-is n m _ place found) found
  | inr late ↦ let found = holds-others n m place some inside late in rw (holder-is n m _ place found) found
]

-- a block, from its parts
pub block_at-longer : (n m b start : ℕ) → start ≡ b * (n / m) + min b (n % m) → b < n % m → record { start = start; length = n / m + 1 } ≡ block_at n m b
block_at-longer n m b start is longer =
    rw (is, block_start-is n m b, lt-ltb b (n % m) longer) refl

-- another block
pub block_at-even : (n m b start : ℕ) → start ≡ b * (n / m) + min b (n % m) → n % m ≤ b → record { start = start; length = n / m } ≡ block_at n m b
block_at-even n m b start is even =
    rw (is, block_start-is n m b, le-ltb b (n % m) even) refl

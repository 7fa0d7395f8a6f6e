-- Words by their bits.
use Rattle.std.proofs.Common.{◌≡◌, ℕ, zero, suc, ◌*◌, ◌/◌, ◌%◌, ◌^◌, ◌<◌, max, false, ◌==◌, ◌||◌, inl, inr, refl, sym, ap, ◌∙◌, arith}
use Rattle.std.proofs.lemmas.Bool.{cases_eq, eq-eqb, ne_eqb}
use Rattle.std.proofs.lemmas.Nat.Bits.{bit_at-lt, bit_at-pow_other, bit_at-pow_same, bit_at-zero, bit_at_or, shr_and_one}
use Rattle.std.proofs.Math.Nat.{mod-eq_of_lt}
use Rattle.std.proofs.Math.Pow.{pow-lt}
use Rattle.std.specs.Int.{bit_at}
use Rattle.std.specs.Prelude.{bit_and, bit_or}
use Rattle.cpl_match.specs.Marks.{is_set}

-- the greater of two bits is set where one of them is
max-bits : (a b : ℕ) → a < 2 → b < 2 → (max a b == 1) ≡ ((a == 1) || (b == 1))
max-bits zero zero few_a few_b = refl
max-bits zero (suc zero) few_a few_b = refl
max-bits (suc zero) zero few_a few_b = refl
max-bits (suc zero) (suc zero) few_a few_b = refl
max-bits (suc (suc a)) b few_a few_b = absurd (omega arith)
max-bits a (suc (suc b)) few_a few_b = absurd (omega arith)

-- a bit of either word
pub is_set-or : (a b bit : ℕ) → is_set (bit_or a b) bit ≡ (is_set a bit || is_set b bit)
unfolding is_set
is_set-or a b bit = ap (λ n. n == 1) (bit_at_or a b bit) ∙ max-bits (bit_at a bit) (bit_at b bit) (bit_at-lt a bit) (bit_at-lt b bit)

-- the one bit of a power of 2
is_set-pow : (bit other : ℕ) → is_set (2 ^ bit) other ≡ (bit == other)
unfolding is_set
is_set-pow bit other =
    elim (cases_eq bit other) [
      | inl same ↦ rw (← same, eq-eqb bit bit refl) (ap (λ n. n == 1) (bit_at-pow_same bit))
      | inr apart ↦ rw (ne_eqb bit other apart) (ap (λ n. n == 1) (bit_at-pow_other bit other (λ e. apart (sym e))))
    ]

-- a one that is shifted up
pub is_set-shl : (bit other word : ℕ) → bit < 64 → word ≡ 1 * 2 ^ bit % 2 ^ 64 → is_set word other ≡ (bit == other)
is_set-shl bit other word few is =
    let one : 1 * 2 ^ bit ≡ 2 ^ bit = omega arith in
    let plain : word ≡ 2 ^ bit = is ∙ ap (λ n. n % 2 ^ 64) one ∙ mod-eq_of_lt (pow-lt few) in
    ap (λ n. is_set n other) plain ∙ is_set-pow bit other

-- a bit that is shifted down
pub is_set-shr : (word bit : ℕ) → (bit_and (word / 2 ^ bit) 1 == 1) ≡ is_set word bit
unfolding is_set
is_set-shr word bit = ap (λ n. n == 1) (shr_and_one word bit)

-- no bit of 0
pub is_set-zero : (bit : ℕ) → is_set 0 bit ≡ false
unfolding is_set
is_set-zero bit = ap (λ n. n == 1) (bit_at-zero bit)

-- Strips, one behind the other.
use Rattle.std.proofs.Common.{◌≡◌, ℕ, ℤ, ◌<◌, ◌≤◌, List, length, map, pos, sym, ap, subst, arith, ◌∙◌}
use Rattle.std.proofs.lemmas.List.{get_or_default, same_lists}
use Rattle.std.proofs.lemmas.List.FromFn.{get_or-map-range_with_len, length-map-range_with_len}
use Rattle.std.specs.List.{All, range_with_len}
use Rattle.cpl_base.specs.Numbers.{IsValue}
use Rattle.cpl_sweep.specs.Kernels.{IsMade, IsSpread, number_at}
use Rattle.cpl_sweep.specs.Strips.{IsStrip}

-- the first so many places hold values of a formula
pub record IsSweptUpTo (count : ℕ) (value : ℕ → ℤ) (these : List ℤ) : Type 0 where
  pub each : (k : ℕ) → k < count → k < length these → number_at these k ≡ value k
  pub within : (k : ℕ) → k < count → k < length these → IsValue (number_at these k)

-- all places of a strip that are swept
pub values-swept : (value : ℕ → ℤ) (count : ℕ) (these : List ℤ) → length these ≤ count → IsSweptUpTo count value these → these ≡ map value (range_with_len 0 (length these))
values-swept value count these all swept =
    let n = length these in
    let many = length-map-range_with_len value 0 n in
    same_lists these (map value (range_with_len 0 n)) (sym many) (λ k d inside.
    get_or_default these k d (pos 0) inside
    ∙ swept.each k (omega arith) inside
    ∙ sym (get_or-map-range_with_len value 0 n k k d inside (omega arith)))

pub All-swept : (value : ℕ → ℤ) (count : ℕ) (these : List ℤ) → length these ≤ count → IsSweptUpTo count value these → All IsValue these
All-swept value count these all swept =
    λ k d inside. let P : ℤ → Type 0 = IsValue in subst P (get_or_default these k (pos 0) d inside) (swept.within k (omega arith) inside)

-- a strip of one number
pub IsStrip-spread : (value : ℕ → ℤ) (number : ℤ) (cells : ℕ) (new : List ℤ) → length new ≡ cells → ((k : ℕ) → k < cells → value k ≡ number) → IsSpread number new → IsStrip value new
IsStrip-spread value number cells new count is spread = record {
  each = λ k inside. spread.each k inside ∙ sym (is k (omega arith));
  within = spread.within;
}

-- what is made of a strip and one number
pub IsStrip-with_number : (join : ℤ → ℤ → ℤ) (left right : ℕ → ℤ) (number : ℤ) (cells : ℕ) (old new : List ℤ) → length old ≡ cells → length new ≡ cells → IsStrip left old → ((k : ℕ) → k < cells → right k ≡ number) → IsMade (λ a. join a number) old new → IsStrip (λ k. join (left k) (right k)) new
IsStrip-with_number join left right number cells old new count same is_left is_right made = record {
  each = λ k inside.
      made.each k (omega arith)
      ∙ ap (λ a. join a number) (is_left.each k (omega arith))
      ∙ ap (join (left k)) (sym (is_right k (omega arith)));
  within = made.within;
}

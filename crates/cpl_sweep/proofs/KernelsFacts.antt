-- A strip of which the first values are new, and one more.
use Rattle.std.proofs.Common.{◌≡◌, ℕ, ℤ, ◌+◌, ◌<◌, ◌≤◌, List, length, set, pos, negsuc, zero, suc, sym, subst, arith, ◌∙◌, inl, inr}
use Rattle.std.proofs.lemmas.Bool.{cases_eq}
use Rattle.std.proofs.lemmas.List.{get_or-set_same, get_or-set_other}
use Rattle.std.proofs.lemmas.List.Elements.{All-set}
use Rattle.std.specs.List.{All}
use Rattle.cpl_base.specs.Numbers.{IsValue}
use Rattle.cpl_formula.specs.Tree.{choice_of}
use Rattle.cpl_sweep.specs.Kernels.{number_at}

-- the places passed hold what is made, those ahead what they held, and all are values
pub record IsMadeUpTo (count : ℕ) (value : ℕ → ℤ) (old new : List ℤ) : Type 0 where
  pub done : (k : ℕ) → k < count → number_at new k ≡ value k
  pub ahead : (k : ℕ) → count ≤ k → number_at new k ≡ number_at old k
  pub within : All IsValue new

pub IsMadeUpTo-more : (count : ℕ) (value : ℕ → ℤ) (old new : List ℤ) (z : ℤ) → count < length new → z ≡ value count → IsValue z → IsMadeUpTo count value old new → IsMadeUpTo (count + 1) value old (set new count z)
IsMadeUpTo-more count value old new z inside is within made = record {
  done = λ k below. elim (cases_eq k count) [
    | inl same ↦ rw same (get_or-set_same new count z (pos 0) inside ∙ is)
    | inr other ↦ get_or-set_other new count k z (pos 0) other ∙ made.done k (omega arith)
  ];
  ahead = λ k behind. get_or-set_other new count k z (pos 0) (λ e. absurd (omega arith)) ∙ made.ahead k (omega arith);
  within = All-set IsValue new count z within made.within;
}

-- a choice between values is a value
pub choice_of-within : (c a b z : ℤ) → z ≡ choice_of c a b → IsValue a → IsValue b → IsValue z
choice_of-within (pos zero) a b z is at_a at_b = let P : ℤ → Type 0 = IsValue in subst P (sym is) at_b
choice_of-within (pos (suc n)) a b z is at_a at_b = let P : ℤ → Type 0 = IsValue in subst P (sym is) at_a
choice_of-within (negsuc n) a b z is at_a at_b = let P : ℤ → Type 0 = IsValue in subst P (sym is) at_b

-- Where a text is cut.
use Rattle.std.proofs.Common.{◌≡◌, ℕ, ◌<◌, false, eqb, List, [], ◌∷◌, length, get_or, take, drop, Some, None, refl, arith, zero, suc}
use Rattle.std.proofs.lemmas.Bool.{eq-eqb, ne_eqb}
use Rattle.cpl_base.specs.Numerals.{cut_at}

-- the first such byte is the one at the place k
pub cut_at-found : (at : ℕ) (text : List ℕ) (k : ℕ) → ((j : ℕ) → j < k → get_or text j 0 ≡ at → ⊥) → k < length text → get_or text k 0 ≡ at → cut_at at text ≡ Some (take k text, drop (suc k) text)
cut_at-found at [] k none inside here = absurd (omega arith)
cut_at-found at (c ∷ cs) zero none inside here = rw (eq-eqb c at here) refl
cut_at-found at (c ∷ cs) (suc k) none inside here =
    let rest = cut_at-found at cs k (λ j l. none (suc j) (omega arith)) (omega arith) here in
    let ne : eqb c at ≡ false = ne_eqb c at (none 0 (omega arith)) in rw (ne, rest) refl

-- there is no such byte
pub cut_at-none : (at : ℕ) (text : List ℕ) → ((j : ℕ) → j < length text → get_or text j 0 ≡ at → ⊥) → cut_at at text ≡ None
cut_at-none at [] none = refl
cut_at-none at (c ∷ cs) none =
    let rest = cut_at-none at cs (λ j l. none (suc j) (omega arith)) in
    let ne : eqb c at ≡ false = ne_eqb c at (none 0 (omega arith)) in rw (ne, rest) refl

-- The products of a sum, two words at a time.
use Rattle.std.proofs.Common.{◌≡◌, ℕ, ◌≤◌, List, [], ◌∷◌, ◌++◌, length, get_or, drop, option_and_then, sym, arith}
use Rattle.cpl_comp.specs.PhaseRows.{PhaseScope, field_place, term_of, terms_with}

-- the first two words are a product, if both are fields, and the rest goes on behind it
pub terms_with-two : (scope : PhaseScope) (before : List (ℕ × ℕ)) (rest : List (List ℕ)) (first second : List ℕ) → 2 ≤ length rest
    → first ≡ get_or rest 0 first → second ≡ get_or rest 1 second
    → terms_with scope before rest ≡ option_and_then (λ term. terms_with scope (before ++ term ∷ []) (drop 2 rest)) (term_of (field_place scope first) (field_place scope second))
terms_with-two scope before [] first second two is_first is_second = absurd (omega arith)
terms_with-two scope before (x ∷ []) first second two is_first is_second = absurd (omega arith)
terms_with-two scope before (x ∷ y ∷ more) first second two is_first is_second =
    (λ i. option_and_then (λ term. terms_with scope (before ++ term ∷ []) more) (term_of (field_place scope (is_first_back i)) (field_place scope (is_second_back i))))
  where
    is_first_back : x ≡ first
    is_first_back = sym is_first

    is_second_back : y ≡ second
    is_second_back = sym is_second

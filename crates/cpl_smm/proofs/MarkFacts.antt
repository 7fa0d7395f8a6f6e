-- Marked cells, one after another.
use Rattle.std.proofs.Common.{◌≡◌, ◌∙◌, ℕ, zero, suc, ◌+◌, ◌-◌, ◌≤◌, Bool, true, false, List, [], ◌∷◌, ◌++◌, if◌then◌else◌, filter, refl, ap, arith}
use Rattle.std.proofs.lemmas.List.Elements.{filter-append}
use Rattle.std.specs.List.{range_with_len}

-- one number more behind others
range_with_len-suc : (a n : ℕ) → range_with_len a (suc n) ≡ range_with_len a n ++ (a + n) ∷ []
range_with_len-suc a zero = let same : a ≡ a + 0 = omega arith in ap (λ k. k ∷ []) same
range_with_len-suc a (suc n) =
    let same : (a + 1) + n ≡ a + suc n = omega arith in
    ap (λ (ks : List ℕ). a ∷ ks) (range_with_len-suc (a + 1) n ∙ ap (λ k. range_with_len (a + 1) n ++ k ∷ []) same)

-- a filter of one number
filter-one : (p : ℕ → Bool) (k : ℕ) → filter p (k ∷ []) ≡ (if p k then k ∷ [] else [])
filter-one p k = elim (p k) as (λ b. (if b then k ∷ [] else []) ≡ (if b then k ∷ [] else [])) [ true ↦ refl | false ↦ refl ]

-- a filter of one number more
pub filter-next : (p : ℕ → Bool) (k : ℕ) → 1 ≤ k → filter p (range_with_len 1 ((k + 1) - 1)) ≡ filter p (range_with_len 1 (k - 1)) ++ (if p k then k ∷ [] else [])
filter-next p k from =
    let count : (k + 1) - 1 ≡ suc (k - 1) = omega arith in
    let last : 1 + (k - 1) ≡ k = omega arith in
    ap (λ n. filter p (range_with_len 1 n)) count
    ∙ ap (filter p) (range_with_len-suc 1 (k - 1) ∙ ap (λ j. range_with_len 1 (k - 1) ++ j ∷ []) last)
    ∙ filter-append p (range_with_len 1 (k - 1)) (k ∷ [])
    ∙ ap (λ ks. filter p (range_with_len 1 (k - 1)) ++ ks) (filter-one p k)

-- Sums of capped numbers.
use Rattle.std.proofs.Common.{◌≡◌, ℕ, ◌+◌, ◌-◌, ◌^◌, min, ◌<◌, List, ap, ◌∙◌, sym, get_or, take, length, arith}
use Rattle.std.specs.Prelude.{sum_by}
use Rattle.std.proofs.lemmas.List.Sums.{sum_by_more}
use Rattle.cpl_script.specs.Systems.{capped}

-- a sum of capped numbers, capped
pub capped-add : (a b : ℕ) → min (capped a + capped b) (2 ^ 64 - 1) ≡ capped (a + b)
capped-add a b = omega arith

-- one number more of a list
pub capped-more : {X : Type 0} (f : X → ℕ) (xs : List X) (k total more : ℕ) (x : X) → k < length xs → x ≡ get_or xs k x → total ≡ capped (sum_by f (take k xs)) → more ≡ capped (f x) → min (total + more) (2 ^ 64 - 1) ≡ capped (sum_by f (take (k + 1) xs))
capped-more f xs k total more x inside is so_far here =
    (λ i. min (so_far i + here i) (2 ^ 64 - 1))
    ∙ capped-add (sum_by f (take k xs)) (f x)
    ∙ ap (λ y. capped (sum_by f (take k xs) + f y)) is
    ∙ ap capped (sym (sum_by_more f xs k x inside))

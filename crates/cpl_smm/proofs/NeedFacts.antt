-- What holds of some of the first members of a list.
use Rattle.std.proofs.Common.{◌≡◌, ◌∙◌, ℕ, zero, suc, ◌+◌, Bool, true, false, ◌||◌, List, [], ◌∷◌, ◌++◌, take, refl, ap, Some, add-one}
use Rattle.std.proofs.lemmas.List.Folds.{list_any-append}
use Rattle.std.specs.List.{list_any, slice_get}

-- nothing else
or-false : (b : Bool) → (b || false) ≡ b
or-false true = refl
or-false false = refl

-- one member more
take-next : (xs : List ℕ) (k x : ℕ) → slice_get xs k ≡ Some x → take (suc k) xs ≡ take k xs ++ x ∷ []
take-next [] k x there = absurd (cc)
take-next (y ∷ xs) zero x there = let same : y ≡ x = cc in ap (λ z. z ∷ []) same
take-next (y ∷ xs) (suc k) x there = ap (λ zs. y ∷ zs) (take-next xs k x there)

-- whether a test holds of one of the first, with one member more
pub list_any-take : (p : ℕ → Bool) (xs : List ℕ) (k x : ℕ) → slice_get xs k ≡ Some x → list_any p (take (k + 1) xs) ≡ (list_any p (take k xs) || p x)
list_any-take p xs k x there =
    ap (λ n. list_any p (take n xs)) (add-one k) ∙ ap (list_any p) (take-next xs k x there) ∙ list_any-append p (take k xs) (x ∷ []) ∙ ap (λ b. list_any p (take k xs) || b) (or-false (p x))

-- Weighted sums, entry by entry.
use Rattle.std.proofs.Common.{◌≡◌, ◌∙◌, ℕ, zero, suc, ◌+◌, ◌<◌, ℤ, ◌+ℤ◌, ◌*ℤ◌, List, [], ◌∷◌, length, drop, get_or, refl, sym, ap, arith, add-one}
use Rattle.std.proofs.lemmas.Int.{ints}
use Rattle.cpl_smm.specs.Rows.{Entry}
use Rattle.cpl_smm.specs.Sums.{row_sum}

-- the sum from an entry on is that entry's product and the sum behind it
row_sum-from : (row : List Entry) (values : List ℤ) (k : ℕ) (e : Entry) (v : ℤ) → k < length row → k < length values
    → row_sum (drop k row) (drop k values) ≡ (get_or row k e).1 *ℤ get_or values k v +ℤ row_sum (drop (suc k) row) (drop (suc k) values)
row_sum-from [] values k e v few count = absurd (omega arith)
row_sum-from (entry ∷ row) [] k e v few count = absurd (omega arith)
row_sum-from (entry ∷ row) (value ∷ values) zero e v few count = refl
row_sum-from (entry ∷ row) (value ∷ values) (suc k) e v few count = row_sum-from row values k e v (omega arith) (omega arith)

-- sums in another order
sum-again : (a b c : ℤ) → (a +ℤ b) +ℤ c ≡ a +ℤ (b +ℤ c)
sum-again a b c = omega (arith, ints)

-- a sum with one product more, and what is left behind it
pub row_sum-next : (row : List Entry) (values : List ℤ) (k : ℕ) (e : Entry) (v sum product all : ℤ) → k < length row → k < length values
    → product ≡ (get_or row k e).1 *ℤ get_or values k v → sum +ℤ row_sum (drop k row) (drop k values) ≡ all
    → (sum +ℤ product) +ℤ row_sum (drop (k + 1) row) (drop (k + 1) values) ≡ all
row_sum-next row values k e v sum product all few count is so_far =
    let from = row_sum-from row values k e v few count in
    let rest = row_sum (drop (suc k) row) (drop (suc k) values) in
    ap (λ n. (sum +ℤ product) +ℤ row_sum (drop n row) (drop n values)) (add-one k)
    ∙ sum-again sum product rest
    ∙ ap (λ z. sum +ℤ (z +ℤ rest)) is
    ∙ ap (λ z. sum +ℤ z) (sym from)
    ∙ so_far

-- How many of the first cells are at most one.
use Rattle.std.proofs.Common.{◌≡◌, ℕ, suc, ◌+◌, ◌≤◌, ◌<◌, List, [], ◌∷◌, length, drop, map, slice_index, refl, inl, inr, arith}
use Rattle.std.proofs.lemmas.Bool.{cases_lt, le-leb, lt-leb}
use Rattle.std.proofs.lemmas.List.FromFn.{get_or-map-range_with_len, length-map-range_with_len}
use Rattle.std.specs.List.{range_with_len}
use Rattle.cpl_smm.specs.Kept.{AreStarts, count_upto}

-- a cell at most
pub count_upto-here : (d : ℕ) (cell : ℕ) (cells : List ℕ) → cell ≤ d → count_upto d (cell ∷ cells) ≡ suc (count_upto d cells)
count_upto-here d cell cells upto = rw (le-leb cell d upto) refl

-- a cell above
pub count_upto-above : (d : ℕ) (cell : ℕ) (cells : List ℕ) → d < cell → count_upto d (cell ∷ cells) ≡ 0
count_upto-above d cell cells above = rw (lt-leb cell d above) refl

-- a count for a cell further on begins with that for one before
pub count_upto-on : (e d : ℕ) (cells : List ℕ) → e ≤ d → count_upto d cells ≡ count_upto e cells + count_upto d (drop (count_upto e cells) cells)
count_upto-on e d [] more = refl
count_upto-on e d (cell ∷ cells) more =
    elim (cases_lt e cell) [
      | inl above ↦ rw (count_upto-above e cell cells above) (omega arith)
      | inr upto ↦ rw (count_upto-here e cell cells upto, count_upto-here d cell cells (omega arith)) (omega (arith, count_upto-on e d cells more))
    ]

-- a count is within the list
pub count_upto-within : (d : ℕ) (cells : List ℕ) → count_upto d cells ≤ length cells
count_upto-within d [] = omega arith
count_upto-within d (cell ∷ cells) =
    elim (cases_lt d cell) [
      | inl above ↦ rw (count_upto-above d cell cells above) (omega arith)
      | inr upto ↦ rw (count_upto-here d cell cells upto) (omega (arith, count_upto-within d cells))
    ]

-- a count for a cell further on is no less
count_upto-more : (d : ℕ) (cells : List ℕ) → count_upto d cells ≤ count_upto (d + 1) cells
count_upto-more d cells = let on = count_upto-on d (d + 1) cells (omega arith) in omega (arith, on)

-- counts as starts
pub AreStarts-counts : (dst_cells : ℕ) (cells : List ℕ) → AreStarts (map (λ dst. count_upto dst cells) (range_with_len 0 (dst_cells + 1))) dst_cells (length cells)
AreStarts-counts dst_cells cells =
    let at : (k : ℕ) → k ≤ dst_cells → slice_index (map (λ dst. count_upto dst cells) (range_with_len 0 (dst_cells + 1))) k ≡ count_upto k cells =
    λ k within. get_or-map-range_with_len (λ dst. count_upto dst cells) 0 (dst_cells + 1) k k 0 (omega arith) (omega arith) in
    record {
      size = length-map-range_with_len (λ dst. count_upto dst cells) 0 (dst_cells + 1);
      ascending = λ k less. rw (at k (omega arith), at (k + 1) (omega arith)) (count_upto-more k cells);
      within = λ k less. rw (at k less) (count_upto-within k cells);
    }

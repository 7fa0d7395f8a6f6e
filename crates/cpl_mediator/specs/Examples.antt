-- The definitions of averages and merges, evaluated on examples.
use Rattle.std.specs.Prelude.{◌≡◌, pos, neg_ℤ, ◌-◌, ◌^◌, [], ◌∷◌}
use Rattle.cpl_mediator.specs.Averages.{average_of, sum_at, sums_with}
use Rattle.cpl_mediator.specs.Merges.{merge_of, sum_of_products}

-- sums and averages of kept fields: of one cell and of two, with thirds, and with halves above and below 0
pub record AverageExamples : Type 0 where
  pub thirds : average_of 1 ((pos 1000000 ∷ []) ∷ (pos 2000000 ∷ []) ∷ (pos 4000000 ∷ []) ∷ []) ≡ pos 2333333 ∷ []
  pub two_cells : average_of 2 ((pos 1 ∷ neg_ℤ (pos 1) ∷ []) ∷ (pos 2 ∷ neg_ℤ (pos 2) ∷ []) ∷ []) ≡ pos 2 ∷ neg_ℤ (pos 1) ∷ []
  pub half_below_zero : average_of 1 ((neg_ℤ (pos 1) ∷ []) ∷ (pos 0 ∷ []) ∷ []) ≡ pos 0 ∷ []
  pub one : average_of 1 ((neg_ℤ (pos 7) ∷ []) ∷ []) ≡ neg_ℤ (pos 7) ∷ []
  pub past_64_bits : sum_at ((pos (2 ^ 63 - 1) ∷ []) ∷ (pos (2 ^ 63 - 1) ∷ []) ∷ []) 0 ≡ pos (2 ^ 64 - 2)
  pub one_more : sums_with (pos 3 ∷ pos 5 ∷ []) (pos 4 ∷ neg_ℤ (pos 6) ∷ []) ≡ pos 7 ∷ neg_ℤ (pos 1) ∷ []

-- merges: without terms, with products that are rounded together, and beyond the range of values
pub record MergeExamples : Type 0 where
  pub none : merge_of [] ≡ pos 0
  pub parts : merge_of ((pos 4000000, pos 250000) ∷ (pos 2000000, pos 750000) ∷ []) ≡ pos 2500000
  pub rounded_once : merge_of ((pos 1, pos 400000) ∷ (pos 1, pos 400000) ∷ []) ≡ pos 1
  pub half_below_zero : merge_of ((neg_ℤ (pos 1), pos 500000) ∷ []) ≡ pos 0
  pub clipped : merge_of ((pos (10 ^ 15), neg_ℤ (pos (10 ^ 15))) ∷ []) ≡ neg_ℤ (pos (10 ^ 15))
  pub exact : sum_of_products ((pos (10 ^ 15), pos (10 ^ 15)) ∷ (pos 1, neg_ℤ (pos 1)) ∷ []) ≡ pos (10 ^ 30 - 1)

-- The definitions of copies, evaluated on examples.
use Rattle.std.specs.Prelude.{ℤ, pos, neg_ℤ, List, [], ◌∷◌}
use Rattle.cpl_field.specs.Copies.{AreApart, AreSame, IsCopied}

-- four values
abbrev pub four_values : List ℤ
four_values = pos 10 ∷ neg_ℤ (pos 20) ∷ pos 30 ∷ pos 40 ∷ []

-- places filled from others, one of them twice, and from another list
pub record FieldExamples : Type 0 where
  pub same : AreSame (3 ∷ 0 ∷ 3 ∷ []) (1 ∷ 2 ∷ 1 ∷ [])
  pub apart : AreApart (3 ∷ 0 ∷ 3 ∷ []) (1 ∷ 2 ∷ 1 ∷ [])
  pub within : IsCopied (3 ∷ 0 ∷ 3 ∷ []) (1 ∷ 2 ∷ 1 ∷ []) four_values four_values (pos 30 ∷ neg_ℤ (pos 20) ∷ pos 30 ∷ neg_ℤ (pos 20) ∷ [])
  pub from_others : IsCopied (1 ∷ []) (0 ∷ []) (pos 7 ∷ []) four_values (pos 10 ∷ pos 7 ∷ pos 30 ∷ pos 40 ∷ [])
  pub none : IsCopied [] [] [] four_values four_values

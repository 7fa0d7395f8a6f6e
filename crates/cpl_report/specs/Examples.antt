-- The definitions of refusals, evaluated on examples.
use Rattle.std.specs.Prelude.{◌≡◌, ◌++◌, codes, length, [], ◌∷◌}
use Rattle.cpl_report.specs.Refusals.{refusal_line, refusal_names}

-- the number of names, and lines with no word, with one, with two and with three
pub record RefusalExamples : Type 0 where
  pub names : length refusal_names ≡ 73
  pub first : refusal_line 1 (codes "model.rc" ∷ []) ≡ codes "refused 1 TooLong model.rc" ++ 10 ∷ []
  pub label : refusal_line 7 (codes "EARTH_component_list" ∷ []) ≡ codes "refused 7 MissingLabel EARTH_component_list" ++ 10 ∷ []
  pub spans : refusal_line 48 (codes "2700" ∷ codes "3600" ∷ []) ≡ codes "refused 48 SpanMismatch 2700 3600" ++ 10 ∷ []
  pub ambiguous : refusal_line 50 (codes "B.x" ∷ codes "A.x" ∷ codes "C.z" ∷ []) ≡ codes "refused 50 Ambiguous B.x A.x C.z" ++ 10 ∷ []
  pub unmatched : refusal_line 51 (codes "B.x" ∷ []) ≡ codes "refused 51 Unmatched B.x" ++ 10 ∷ []
  pub last : refusal_line 73 (codes "12" ∷ []) ≡ codes "refused 73 SeriesTooLarge 12" ++ 10 ∷ []
  pub no_words : refusal_line 62 [] ≡ codes "refused 62 NotYetBuilt" ++ 10 ∷ []

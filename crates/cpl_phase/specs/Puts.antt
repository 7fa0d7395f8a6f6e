-- Other fields put in the places of fields.
use Rattle.std.specs.Prelude.{◌≡◌, ℕ, ℤ, List, [], ◌∷◌, length, slice_set}
use Rattle.std.specs.List.{All}
use Rattle.cpl_base.specs.Numbers.{IsValue}

-- fields with others in these places, one after another
abbrev pub all_put : List ℕ → (others fields : List (List ℤ)) → List (List ℤ)
all_put [] others fields = fields
all_put (k ∷ ks) [] fields = fields
all_put (k ∷ ks) (other ∷ others) fields = all_put ks others (slice_set fields k other)

-- What comes back from the places of fields is as long as these were, and of values as these were.
pub record AreBack (fields old new : List (List ℤ)) : Type 0 where
  pub places : (n : ℕ) → All (λ field. length field ≡ n) fields → All (λ field. length field ≡ n) old → All (λ field. length field ≡ n) new
  pub values : All (All IsValue) fields → All (All IsValue) old → All (All IsValue) new

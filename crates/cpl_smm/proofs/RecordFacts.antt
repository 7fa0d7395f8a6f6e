-- The fields of a record.
use Rattle.std.proofs.Common.{◌≡◌, ℕ, zero, suc, ◌<◌, List, [], ◌∷◌, length, Some, None, arith}
use Rattle.csv.specs.Records.{field_at}
use Rattle.cpl_smm.specs.Records.{three_of}

-- a field is there at each place below the number of fields
pub field_at-there : (fields : List (List ℕ)) (i : ℕ) → i < length fields → field_at fields i ≡ None → ⊥
unfolding field_at
field_at-there [] i few none = omega arith
field_at-there (field ∷ fields) zero few none = cc
field_at-there (field ∷ fields) (suc i) few none = field_at-there fields i (omega arith) none

-- three fields, each at its place
pub three_of-fields : (fields : List (List ℕ)) (a b c : List ℕ) → length fields ≡ 3 → field_at fields 0 ≡ Some a → field_at fields 1 ≡ Some b → field_at fields 2 ≡ Some c
    → Some (a, b, c) ≡ three_of fields
unfolding field_at
three_of-fields [] a b c few first second third = absurd (omega arith)
three_of-fields (x ∷ []) a b c few first second third = absurd (omega arith)
three_of-fields (x ∷ y ∷ []) a b c few first second third = absurd (omega arith)
three_of-fields (x ∷ y ∷ z ∷ []) a b c few first second third = cc
three_of-fields (x ∷ y ∷ z ∷ w ∷ more) a b c few first second third = absurd (omega arith)

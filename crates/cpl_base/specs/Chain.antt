-- Steps of a definition that may have no answer: what `?` is in code.
use Rattle.std.specs.Prelude.{Bool, true, false, List, [], ◌∷◌, Option, Some, None, option_and_then}

infixl 10 ◌>>=◌
-- goes on with the value, if there is one
abbrev pub ◌>>=◌ : {A B : Type 0} → Option A → (A → Option B) → Option B
o >>= f = option_and_then f o

-- goes on only where the test holds
abbrev pub some_if : Bool → Option (Unit {0})
some_if true = Some tt
some_if false = None

-- one answer for each member, or none where some member has none
abbrev pub all_some : {A B : Type 0} → (A → Option B) → List A → Option (List B)
all_some f [] = Some []
all_some f (x ∷ xs) = f x >>= (λ y. all_some f xs >>= (λ ys. Some (y ∷ ys)))

-- the one member of a list that has just one
abbrev pub sole_member : {A : Type 0} → List A → Option A
sole_member [] = None
sole_member (x ∷ []) = Some x
sole_member (x ∷ y ∷ more) = None

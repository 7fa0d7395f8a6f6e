-- What is made of the values of a strip, one by one.
use Rattle.std.specs.Prelude.{◌≡◌, ℕ, ℤ, pos, ◌<◌, List, length, slice_index_or}
use Rattle.std.specs.List.{All}
use Rattle.cpl_base.specs.Numbers.{IsValue}
use Rattle.cpl_formula.specs.Tree.{choice_of}

-- the number at a place
abbrev pub number_at : List ℤ → ℕ → ℤ
number_at values place = slice_index_or values place (pos 0)

-- each value is made of the one that stood in its place
pub record IsMade (make : ℤ → ℤ) (old new : List ℤ) : Type 0 where
  pub each : (k : ℕ) → k < length old → number_at new k ≡ make (number_at old k)
  pub within : All IsValue new

-- each value is one number
pub record IsSpread (number : ℤ) (new : List ℤ) : Type 0 where
  pub each : (k : ℕ) → k < length new → number_at new k ≡ number
  pub within : All IsValue new

-- each value is made of the one that stood in its place and of the other one there
pub record IsJoined (join : ℤ → ℤ → ℤ) (old others new : List ℤ) : Type 0 where
  pub each : (k : ℕ) → k < length old → number_at new k ≡ join (number_at old k) (number_at others k)
  pub within : All IsValue new

-- each value is the first of two others in its place where it was above 0, else the second
pub record IsChosen (old ones others new : List ℤ) : Type 0 where
  pub each : (k : ℕ) → k < length old → number_at new k ≡ choice_of (number_at old k) (number_at ones k) (number_at others k)
  pub within : All IsValue new

-- Copies among places, by a list of places to fill and a list of where each is filled from.
use Rattle.std.specs.Prelude.{◌≡◌, ◌≢◌, ℕ, ℤ, pos, ◌<◌, List, length, slice_index, slice_index_or}

-- a place that stands twice in the list to fill is filled twice from one place
abbrev pub AreSame : List ℕ → List ℕ → Type 0
AreSame to from = (j k : ℕ) → j < length to → k < length to → slice_index to j ≡ slice_index to k → slice_index from j ≡ slice_index from k

-- no place is filled and copied from
abbrev pub AreApart : List ℕ → List ℕ → Type 0
AreApart to from = (j k : ℕ) → j < length to → k < length from → slice_index to j ≢ slice_index from k

-- none of the first so many places of the list is this one
abbrev pub IsOther : ℕ → List ℕ → ℕ → Type 0
IsOther count to place = (j : ℕ) → j < count → slice_index to j ≢ place

-- The first so many places of a list hold the values at the places that they are filled from, all other places what they
-- held.
pub record IsCopiedTo (count : ℕ) (to from : List ℕ) (values old new : List ℤ) : Type 0 where
  pub filled : (j : ℕ) → j < count → slice_index_or new (slice_index to j) (pos 0) ≡ slice_index_or values (slice_index from j) (pos 0)
  pub kept : (place : ℕ) → IsOther count to place → slice_index_or new place (pos 0) ≡ slice_index_or old place (pos 0)
  pub places : length new ≡ length old

-- all places of the list are filled
abbrev pub IsCopied : List ℕ → List ℕ → List ℤ → List ℤ → List ℤ → Type 0
IsCopied to from values old new = IsCopiedTo (length to) to from values old new

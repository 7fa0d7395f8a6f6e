-- What is kept for a halo. The steps of the code, not needed to read what the calls promise.
use Rattle.std.specs.Prelude.{◌≡◌, ℕ, ◌+◌, ◌<◌, ℤ, List, length, get_or}
use Rattle.cpl_grid.specs.Owners.{Layout, pets_in}
use Rattle.cpl_route.specs.Reach.{IsSound}
use Rattle.cpl_route.specs.declared.halo_pair.HaloPair.{HaloPair}

-- what is kept of a PET is of this layout, these offsets and this PET
pub record IsPairOf (layout : Layout) (offsets : List (ℤ × ℤ)) (pet : ℕ) (pair : HaloPair) : Type 0 where
  pub sound : IsSound pair
  pub of_layout : pair.decomp.now ≡ layout
  pub of_offsets : pair.offsets.now ≡ offsets
  pub of_pet : pair.pet ≡ pet

-- what is kept of the first PETs, in a list with room for all
pub record HasPairsTo (layout : Layout) (offsets : List (ℤ × ℤ)) (list : List HaloPair) (count : ℕ) : Type 0 where
  pub room : length list ≡ 64
  pub each : (k : ℕ) (other : HaloPair) → k < count → IsPairOf layout offsets (layout.first_pet + k) (get_or list k other)

-- what is kept of all PETs
abbrev pub HasPairs : Layout → List (ℤ × ℤ) → List HaloPair → Type 0
HasPairs layout offsets list = HasPairsTo layout offsets list (pets_in layout)

-- Fields whose ring is filled.
use Rattle.std.specs.Prelude.{◌≡◌, ℕ, ◌<◌, ℤ, List, length, slice_index}
use Rattle.std.specs.List.{All}
use Rattle.cpl_base.specs.Numbers.{IsValue}
use Rattle.cpl_block.specs.Frames.{IsOwn, IsRinged, places_in}
use Rattle.cpl_block.specs.Rings.{IsArrived}
use Rattle.cpl_block.specs.declared.frame.Frame.{Frame}
use Rattle.cpl_sweep.specs.Places.{field_at}

-- Fields on a block: so many, each with a value at each place.
pub record AreOnBlock (frame : Frame) (number : ℕ) (fields : List (List ℤ)) : Type 0 where
  pub count : length fields ≡ number
  pub places : All (λ field. length field ≡ places_in frame) fields
  pub values : All (All IsValue) fields

-- The rings of the first so many fields of a list are filled: each of these has at all places the values of the cells that
-- they stand for, if it had those of its own cells and those of other blocks; and no field has lost any of these.
pub record AreRefilledTo (count : ℕ) (frame : Frame) (halo : List ℕ) (old new : List (List ℤ)) : Type 0 where
  pub own : (k : ℕ) (value : ℕ → ℤ) → IsOwn frame value (field_at old k) → IsOwn frame value (field_at new k)
  pub arrived : (k : ℕ) (value : ℕ → ℤ) → IsArrived frame value (field_at old k) → IsArrived frame value (field_at new k)
  pub ringed : (j : ℕ) (value : ℕ → ℤ) → j < count
      → IsOwn frame value (field_at old (slice_index halo j)) → IsArrived frame value (field_at old (slice_index halo j))
      → IsRinged frame value (field_at new (slice_index halo j))

-- those of all of the list are
abbrev pub AreRefilled : Frame → List ℕ → List (List ℤ) → List (List ℤ) → Type 0
AreRefilled frame halo old new = AreRefilledTo (length halo) frame halo old new

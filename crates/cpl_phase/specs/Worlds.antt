-- A block of a component, beside the whole component.
use Rattle.std.specs.Prelude.{◌≡◌, ℕ, ◌<◌, ℤ, List, [], ◌∷◌, length, map, slice_index}
use Rattle.cpl_block.specs.Frames.{IsOwn, values_in}
use Rattle.cpl_block.specs.Rings.{IsArrived}
use Rattle.cpl_block.specs.declared.frame.Frame.{Frame}
use Rattle.cpl_comp.specs.Worlds.{FieldWorld, cell_value, field_at as world_at, field_value}
use Rattle.cpl_comp.specs.Writes.{Write}
use Rattle.cpl_grid.specs.Parts.{cells_of_part}
use Rattle.cpl_sweep.specs.Places.{field_at}

-- The values of a block's cells, out of a whole component's field.
abbrev pub block_values : Frame → FieldWorld → List ℤ
block_values frame field = map (cell_value field.values) (cells_of_part frame.grid frame.part)

-- The first so many fields of a block have the values that a whole component's fields have at the block's cells.
pub record HoldFields (frame : Frame) (count : ℕ) (world : List FieldWorld) (fields : List (List ℤ)) : Type 0 where
  pub number : length world ≡ count
  pub values : (k : ℕ) → k < count → values_in frame (field_at fields k) ≡ block_values frame (world_at world k)

-- The places of other blocks hold the values of their cells, in the fields of a halo.
abbrev pub HaveArrived : Frame → List ℕ → List FieldWorld → List (List ℤ) → Type 0
HaveArrived frame halo world fields =
    (j : ℕ) → j < length halo → IsArrived frame (field_value world (slice_index halo j)) (field_at fields (slice_index halo j))

-- a field has the values of a write at the block's cells
abbrev pub IsWritten : Frame → Write → List ℤ → Type 0
IsWritten frame write field = IsOwn frame (cell_value write.values) field

-- other fields have the values of writes, one each, and there may be more of them
abbrev pub AreWritten : Frame → List Write → List (List ℤ) → Type 0
AreWritten frame [] others = Unit {0}
AreWritten frame (write ∷ writes) [] = ⊥
AreWritten frame (write ∷ writes) (other ∷ others) = IsWritten frame write other × AreWritten frame writes others

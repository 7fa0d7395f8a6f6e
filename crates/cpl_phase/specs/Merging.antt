-- The values of merges over a block.
use Rattle.std.specs.Prelude.{ℕ, ◌+◌, ℤ, pos, List, map}
use Rattle.cpl_block.specs.Frames.{first_of, value_at}
use Rattle.cpl_block.specs.declared.frame.Frame.{Frame}
use Rattle.cpl_mediator.specs.Merges.{merge_of}
use Rattle.cpl_sweep.specs.Places.{field_at}

-- the two factors of a product at a place of the fields
abbrev pub factors_at : List (List ℤ) → ℕ → ℕ × ℕ → ℤ × ℤ
factors_at fields place term = (value_at (field_at fields term.0) place, value_at (field_at fields term.1) place)

-- a merge at a place
abbrev pub merge_at : List (ℕ × ℕ) → List (List ℤ) → ℕ → ℤ
merge_at terms fields place = merge_of (map (factors_at fields place) terms)

-- a merge so many steps from the block's first place
abbrev pub merge_step : Frame → List (ℕ × ℕ) → List (List ℤ) → ℕ → ℤ
merge_step frame terms fields step = merge_at terms fields (first_of frame (pos 0) (pos 0) + step)

-- Values of a block's cells, put into a field.
use Rattle.std.specs.Prelude.{◌≡◌, ◌≢◌, ℕ, ℤ, List, length, map}
use Rattle.cpl_block.specs.Frames.{values_in}
use Rattle.cpl_block.specs.declared.frame.Frame.{Frame}
use Rattle.cpl_grid.specs.Parts.{cells_of_part}
use Rattle.cpl_sweep.specs.Places.{field_at}
use Rattle.cpl_phase.specs.Refreshed.{AreOnBlock}

-- Fields of a block, of which that of a place has these values at the block's cells; all others are as before.
pub record AreTakenIn (frame : Frame) (values : List ℤ) (place : ℕ) (old new : List (List ℤ)) : Type 0 where
  pub on : AreOnBlock frame (length old) new
  pub others : (k : ℕ) → k ≢ place → field_at new k ≡ field_at old k
  pub taken : (value : ℕ → ℤ) → values ≡ map value (cells_of_part frame.grid frame.part)
      → values_in frame (field_at new place) ≡ map value (cells_of_part frame.grid frame.part)

-- A field of a block with a number of each cell.
use Rattle.std.specs.Prelude.{◌≡◌, ℕ, ℤ, List, length}
use Rattle.std.specs.List.{All}
use Rattle.cpl_base.specs.Numbers.{IsValue}
use Rattle.cpl_block.specs.Frames.{IsRinged, places_in}
use Rattle.cpl_block.specs.declared.frame.Frame.{Frame}

-- Each place of the block and of its ring holds the value of the cell that it stands for.
pub record IsNumbered (frame : Frame) (value : ℕ → ℤ) (field : List ℤ) : Type 0 where
  pub places : length field ≡ places_in frame
  pub values : All IsValue field
  pub ringed : IsRinged frame value field

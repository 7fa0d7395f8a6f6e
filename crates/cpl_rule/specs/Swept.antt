-- What a rule leaves in a field of a block.
use Rattle.std.specs.Prelude.{◌≡◌, ℕ, ℤ, List, length}
use Rattle.std.specs.List.{All}
use Rattle.cpl_base.specs.Numbers.{IsValue}
use Rattle.cpl_block.specs.Frames.{IsSpot, place_at, places_in, step_to, value_at}
use Rattle.cpl_block.specs.declared.frame.Frame.{Frame}

-- A field of a block holds at each cell what a function of steps from the block's first place gives; at places of the ring it
-- holds some values.
pub record IsSwept (frame : Frame) (value : ℕ → ℤ) (field : List ℤ) : Type 0 where
  pub places : length field ≡ places_in frame
  pub values : All IsValue field
  pub cells : (a b : ℕ) → IsSpot frame a b → value_at field (place_at frame a b) ≡ value (step_to frame a b)

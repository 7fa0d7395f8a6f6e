-- Values of the block's cells, one behind the other, for each field of a component.
use Rattle.std.specs.Prelude.{◌≡◌, ℕ, ◌<◌, true, false, ℤ, List, length}
use Rattle.std.specs.List.{All}
use Rattle.cpl_base.specs.Numbers.{IsValue}
use Rattle.cpl_block.specs.Frames.{values_in}
use Rattle.cpl_block.specs.declared.frame.Frame.{Frame}
use Rattle.cpl_comp.specs.Turns.{is_among}
use Rattle.cpl_sweep.specs.Places.{field_at}

-- Lists of so many values, of which those of some places have the values of fields at the block's cells; all others are as before.
pub record AreShownFor (frame : Frame) (cells : ℕ) (places : List ℕ) (fields old new : List (List ℤ)) : Type 0 where
  pub number : length new ≡ length old
  pub count : All (λ values. length values ≡ cells) new
  pub fresh : (k : ℕ) → k < length old → is_among places k ≡ true → field_at new k ≡ values_in frame (field_at fields k)
  pub values : All (All IsValue) fields → All (All IsValue) old → All (All IsValue) new
  pub kept : (k : ℕ) → is_among places k ≡ false → field_at new k ≡ field_at old k

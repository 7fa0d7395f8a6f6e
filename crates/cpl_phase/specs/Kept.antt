-- Running sums for the fields of a block, beside what a whole component keeps.
use Rattle.std.specs.Prelude.{◌≡◌, ℕ, ◌<◌, List, length, slice_index_or}
use Rattle.std.specs.List.{All}
use Rattle.cpl_block.specs.declared.frame.Frame.{Frame}
use Rattle.cpl_comp.specs.Worlds.{FieldWorld, field_at as world_at}
use Rattle.cpl_mediator.specs.Averages.{RunningSums, no_sums}
use Rattle.cpl_phase.specs.Keeping.{IsAccumOf, StandsForBlock}

-- the running sums of the field of a place
abbrev pub accum_at : List RunningSums → ℕ → RunningSums
accum_at accums k = slice_index_or accums k (no_sums 0)

-- The running sums of the first so many fields stand for what is kept for these, as far as the block goes.
pub record StandForKept (frame : Frame) (count : ℕ) (world : List FieldWorld) (accums : List RunningSums) : Type 0 where
  pub number : length world ≡ count
  pub each : (k : ℕ) → k < count → StandsForBlock frame (accum_at accums k) (world_at world k).kept

-- Running sums of so many fields of values, which sum up nothing or have a sum for each of so many cells.
pub record AreAccums (cells count : ℕ) (accums : List RunningSums) : Type 0 where
  pub number : length accums ≡ count
  pub each : All (IsAccumOf cells) accums

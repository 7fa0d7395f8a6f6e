-- Kept fields over a block.
use Rattle.std.specs.Prelude.{◌≡◌, ◌≢◌, ℕ, ℤ, List, length, map}
use Rattle.std.specs.List.{All}
use Rattle.cpl_base.specs.Numbers.{IsValue}
use Rattle.cpl_block.specs.declared.frame.Frame.{Frame}
use Rattle.cpl_comp.specs.Worlds.{cell_value}
use Rattle.cpl_grid.specs.Parts.{cells_of_part}
use Rattle.cpl_mediator.specs.Averages.{RunningSums, StandsFor}

-- the values of a block's cells, out of those of all cells
abbrev pub values_of_block : Frame → List ℤ → List ℤ
values_of_block frame values = map (cell_value values) (cells_of_part frame.grid frame.part)

-- kept fields, cut to the block
abbrev pub kept_in : Frame → List (List ℤ) → List (List ℤ)
kept_in frame kept = map (values_of_block frame) kept

-- running sums stand for kept fields of a whole component, as far as the block goes
abbrev pub StandsForBlock : Frame → RunningSums → List (List ℤ) → Type 0
StandsForBlock frame running kept = StandsFor running (kept_in frame kept)

-- Running sums of some fields of values, which have a sum for each of so many cells if there are such fields.
pub record IsAccumOf (cells : ℕ) (running : RunningSums) : Type 0 where
  pub kept : List (List ℤ)
  pub stands : StandsFor running kept
  pub values : All (All IsValue) kept
  pub sums : running.count ≢ 0 → length running.sums ≡ cells

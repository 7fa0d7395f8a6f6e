use Rattle.std.proofs.Common.{refl}
use Rattle.cpl_grid.specs.Grid.{column_at, nearest_number, ring_number, row_at}
use Rattle.cpl_grid.specs.Parts.{cells_of_part}
use Rattle.cpl_block.specs.Aims.{is_aimed}
use Rattle.cpl_block.specs.Frames.{home_of, is_ours, is_own, stands_for}
use Rattle.cpl_block.specs.Rings.{is_far, is_near}
use Rattle.cpl_block.proofs.examples.block_examples.Goals as goal

pub returns : goal.returns
unfolding column_at nearest_number ring_number row_at cells_of_part is_aimed home_of is_ours is_own stands_for is_far is_near
returns c = record {
  row = refl;
  places = refl;
  here = refl;
  below_left = refl;
  step = refl;
  span = refl;
  cells = refl;
  near = refl;
  sources = refl;
  far = refl;
  aimed = refl;
  values = refl;
  ring_cells = refl;
  ring_near = refl;
  ring_far = refl;
  middle_cells = refl;
  middle_far = refl;
  total = refl;
  least = refl;
  greatest = refl;
}

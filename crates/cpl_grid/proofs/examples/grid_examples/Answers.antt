use Rattle.std.proofs.Common.{refl}
use Rattle.cpl_grid.specs.Blocks.{block_start}
use Rattle.cpl_grid.specs.Grid.{column_at, nearest_number, neighbour_of, ring_number, row_at}
use Rattle.cpl_grid.specs.Owners.{cells_of, owner_of}
use Rattle.cpl_grid.specs.Parts.{cells_of_part}
use Rattle.cpl_grid.proofs.examples.grid_examples.Goals as goal

pub returns : goal.returns
unfolding block_start nearest_number ring_number column_at row_at neighbour_of cells_of owner_of cells_of_part
returns c = record {
  columns = refl;
  rows = refl;
  index = refl;
  five_in_three = refl;
  five_starts = refl;
  five_holders = refl;
  five_owners = refl;
  two_in_three = refl;
  block_0_0 = refl;
  block_1_0 = refl;
  block_2_0 = refl;
  block_0_1 = refl;
  block_1_1 = refl;
  block_2_1 = refl;
  all_blocks = refl;
  part_0_0 = refl;
  part_1_0 = refl;
  part_2_1 = refl;
  part_of_five = refl;
  part_with_none = refl;
  rows_of_part = refl;
  rows_of_whole = refl;
  rows_of_none = refl;
  two_counts = refl;
  ring_of_three_forward = refl;
  ring_of_three_back_two = refl;
  ring_of_one = refl;
  ring_of_two = refl;
  ring_second_row = refl;
  edge_first = refl;
  edge_middle = refl;
  edge_last = refl;
  rows_of_ring = refl;
  rows_of_plain = refl;
  corner_of_ring = refl;
  corner_of_plain = refl;
}

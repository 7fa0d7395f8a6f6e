use Rattle.std.proofs.Common.{rules}
use Rattle.cpl_grid.specs.Blocks.{block_start}
use Rattle.cpl_grid.specs.Grid.{column_at, nearest_number, neighbour_of, ring_number, row_at}
use Rattle.cpl_grid.specs.Owners.{cells_of, owner_of}
use Rattle.cpl_route.specs.Routes.{cells_between, pickers_of, route_of, shared_cells}
use Rattle.cpl_route.proofs.examples.route_examples.Goals as goal

pub returns : goal.returns
unfolding block_start nearest_number ring_number column_at row_at neighbour_of owner_of cells_of shared_cells route_of cells_between pickers_of
returns c = search rules

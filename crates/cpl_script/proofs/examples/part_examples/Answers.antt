-- The examples hold by computing.
use Rattle.std.proofs.Common.{refl}
use Rattle.cpl_comp.specs.Halos.{halo_of}
use Rattle.cpl_comp.specs.Worlds.{active_cells, over_cells}
use Rattle.cpl_calendar.specs.Parts.{month_day, parts_at}
use Rattle.cpl_grid.specs.Blocks.{block_start}
use Rattle.cpl_grid.specs.Grid.{column_at, nearest_number, neighbour_of, ring_number, row_at}
use Rattle.cpl_grid.specs.Owners.{cells_of, owner_of}
use Rattle.cpl_route.specs.Routes.{cells_between, pickers_of, route_of, shared_cells}
use Rattle.cpl_script.specs.SerialRun.{world_of}
use Rattle.cpl_script.specs.Systems.{coupling_of}
use Rattle.cpl_script.proofs.examples.part_examples.Goals as goal

pub returns-clause-parts : goal.returns-clause-parts
unfolding world_of coupling_of over_cells active_cells halo_of parts_at month_day block_start nearest_number ring_number column_at row_at neighbour_of owner_of cells_of shared_cells route_of cells_between pickers_of
returns-clause-parts c = record {
  route = refl;
  numbers = refl;
  parcel = refl;
  own_parcel = refl;
  no_parcel = refl;
  not_at_init = refl;
  part_of_first = refl;
  part_of_second = refl;
  share_of_second = refl;
  share_of_third = refl;
}

pub returns-clause-halos : goal.returns-clause-halos
unfolding world_of coupling_of over_cells active_cells halo_of parts_at month_day block_start nearest_number ring_number column_at row_at neighbour_of owner_of cells_of shared_cells route_of cells_between pickers_of
returns-clause-halos c = record { start = refl; phase = refl; numbers = refl; parcel = refl }

-- The examples hold by computing.
use Rattle.std.proofs.Common.{refl}
use Rattle.cpl_calendar.specs.Parts.{month_day, parts_at}
use Rattle.cpl_comp.specs.Halos.{halo_of}
use Rattle.cpl_comp.specs.Worlds.{active_cells, over_cells}
use Rattle.cpl_formula.proofs.ValuesFacts.{values}
use Rattle.cpl_grid.specs.Blocks.{block_start}
use Rattle.cpl_grid.specs.Grid.{column_at, nearest_number, neighbour_of, ring_number, row_at}
use Rattle.cpl_grid.specs.Owners.{cells_of, owner_of}
use Rattle.cpl_route.specs.Routes.{pickers_of, route_of, shared_cells}
use Rattle.cpl_sequence.proofs.TreeFacts.{element_ops-Link, element_ops-Loop, element_ops-Run}
use Rattle.cpl_script.specs.SerialRun.{total_of, world_of}
use Rattle.cpl_script.specs.Systems.{coupling_of}
use Rattle.cpl_script.proofs.examples.run_examples.Goals as goal

pub returns-clause-model : goal.returns-clause-model
unfolding total_of world_of coupling_of over_cells active_cells halo_of parts_at month_day column_at nearest_number neighbour_of ring_number row_at
returns-clause-model c = record {
  counts = refl;
  clock = refl;
  substeps = refl;
  neighbours = refl;
  relaxed = refl;
  clipped = refl;
  halved = refl;
  range = refl;
  formula = simp values;
}

pub returns-clause-links : goal.returns-clause-links
unfolding total_of world_of coupling_of over_cells active_cells halo_of parts_at month_day column_at nearest_number neighbour_of ring_number row_at
returns-clause-links c = record {
  operations = simp (element_ops-Link, element_ops-Run);
  lagged = refl;
  too_new = refl;
  next = refl;
  unstamped = refl;
  traced = refl;
  traced_to_fault = refl;
  five_cells = refl;
  thirds_sum = refl;
}

pub returns-clause-mediator : goal.returns-clause-mediator
unfolding total_of world_of coupling_of over_cells active_cells halo_of parts_at month_day column_at nearest_number neighbour_of ring_number row_at
returns-clause-mediator c = record {
  mean = refl;
  empty = refl;
  means = refl;
  merge = refl;
  stamps = refl;
  unread = refl;
  read = refl;
}

pub returns-clause-days : goal.returns-clause-days
unfolding total_of world_of coupling_of over_cells active_cells halo_of parts_at month_day column_at nearest_number neighbour_of ring_number row_at
returns-clause-days c = record {
  initialisation = refl;
  first_hour = simp (element_ops-Link, element_ops-Run, element_ops-Loop);
  day = refl;
  ten_days = refl;
}

-- The examples hold by computing.
use Rattle.std.proofs.Common.{refl}
use Rattle.cpl_calendar.specs.Parts.{month_day, parts_at}
use Rattle.cpl_formula.proofs.ValuesFacts.{values}
use Rattle.cpl_grid.specs.Grid.{column_at, nearest_number, neighbour_of, ring_number, row_at}
use Rattle.cpl_comp.specs.Worlds.{over_cells}
use Rattle.cpl_comp.proofs.examples.reading_examples.Goals as goal

pub returns : goal.returns
unfolding parts_at month_day column_at nearest_number neighbour_of ring_number row_at over_cells
returns c = record {
  field = refl;
  neighbour = refl;
  at_edges = refl;
  column = refl;
  row = refl;
  cell = refl;
  columns = refl;
  rows = refl;
  year = refl;
  month = refl;
  day = refl;
  hour = refl;
  minute = refl;
  second = refl;
  days = refl;
  day_second = refl;
  dt = refl;
  rings = refl;
  is_still = refl;
  rings_monthly = refl;
  days_at_midnight = refl;
  formula = simp values;
  call = refl;
  calls = refl;
}

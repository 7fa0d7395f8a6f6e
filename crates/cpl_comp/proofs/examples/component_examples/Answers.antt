-- The examples hold by computing.
use Rattle.std.proofs.Common.{refl}
use Rattle.cpl_base.specs.Numerals.{numeral_of}
use Rattle.cpl_config.specs.Items.{items_of}
use Rattle.cpl_formula.specs.Steps.{parsed_of}
use Rattle.cpl_text.specs.Lines.{lines_of}
use Rattle.cpl_comp.specs.Advertised.{advertised_component}
use Rattle.cpl_comp.specs.FieldRows.{fields_in}
use Rattle.cpl_comp.specs.Halos.{halo_of}
use Rattle.cpl_comp.specs.Realised.{realised_component}
use Rattle.cpl_comp.proofs.examples.component_examples.Goals as goal

pub returns-clause-advertised : goal.returns-clause-advertised
unfolding items_of lines_of advertised_component fields_in
returns-clause-advertised c = record {
  nothing = refl;
  variable = refl;
  mediator = refl;
  plain_import = refl;
  kind = refl;
  kind_of_two_words = refl;
  bounds_of_one = refl;
  bounds_past_the_last = refl;
  bounds_turned = refl;
  reserved_name = refl;
  alarm_name = refl;
  no_rule = refl;
  twice_across_tables = refl;
  standard_unknown = refl;
  units_differ = refl;
  option_twice = refl;
  two_checks = refl;
  row_after_row = refl;
  phase_twice = refl;
  phase_name_first = refl;
  no_phase = refl;
}

pub returns-clause-realised : goal.returns-clause-realised
unfolding items_of lines_of advertised_component fields_in realised_component halo_of parsed_of numeral_of
returns-clause-realised c = record {
  starts = refl;
  start_over_import = refl;
  formula = refl;
  call = refl;
  halo = refl;
  halo_of_call = refl;
  no_halo = refl;
  no_grid = refl;
  grid_of_no_rows = refl;
  grid_of_no_ring = refl;
  many_cells = refl;
  blocks = refl;
  substep = refl;
  start_over_variable = refl;
  no_table = refl;
  assigned_twice = refl;
  no_such_field = refl;
  range_turned = refl;
  early_end = refl;
  call_alone = refl;
  argument = refl;
  entry_unknown = refl;
  inputs_differ = refl;
  average_in_model = refl;
  odd_factors = refl;
  averaged_and_assigned = refl;
}

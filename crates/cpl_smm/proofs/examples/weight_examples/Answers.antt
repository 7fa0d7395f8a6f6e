use Rattle.std.proofs.Common.{refl}
use Rattle.csv.proofs.OnLiterals.{csv_on_literals}
use Rattle.cpl_base.specs.Numerals.{numeral_of}
use Rattle.cpl_grid.specs.Owners.{cells_of, owner_of}
use Rattle.cpl_smm.specs.Records.{record_factor}
use Rattle.cpl_smm.specs.Rows.{row_of}
use Rattle.cpl_smm.proofs.examples.weight_examples.Goals as goal

pub returns : goal.returns
unfolding csv_on_literals numeral_of record_factor row_of cells_of owner_of
returns c = record {
  says = refl;
  zeros = refl;
  two_fields = refl;
  four_fields = refl;
  blank = refl;
  ten_places = refl;
  no_cell = refl;
  past_sources = refl;
  past_destinations = refl;
  greatest = refl;
  past_weights = refl;
  form_before_index = refl;
  index_before_weight = refl;
  too_many_before_form = refl;
  records = refl;
  sorted = refl;
  no_records = refl;
  pair_twice = refl;
  first_fault = refl;
  pair_before_fault = refl;
  half = refl;
  half_below_zero = refl;
  thirds = refl;
  no_factor = refl;
  clipped = refl;
  needs = refl;
}

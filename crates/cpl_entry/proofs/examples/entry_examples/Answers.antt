-- The examples hold by computing.
use Rattle.std.proofs.Common.{refl}
use Rattle.cpl_formula.proofs.ValuesFacts.{values}
use Rattle.cpl_entry.proofs.examples.entry_examples.Goals as goal

pub returns : goal.returns
returns c = record {
  entries = record {
    no_entries = refl;
    distinct = refl;
    twice = refl;
    at_once = refl;
    found = refl;
    found_second = refl;
    one_too_few = refl;
    one_too_many = refl;
    unknown = refl;
    unknown_anyhow = refl;
    inputs = refl;
    no_place = refl;
    relaxed = simp values;
    relaxed_again = simp values;
    of_size = simp values;
  };
}

use Rattle.std.proofs.Common.{refl}
use Rattle.cpl_driver.specs.Answers.{answer}
use Rattle.cpl_driver.specs.Files.{line_at, lines_of, system_in, system_of}
use Rattle.cpl_driver.proofs.ExamplesFacts.{counting_is, counting_ends, counting_said, doubling_is, doubling_ends, doubling_said, rules_are}
use Rattle.cpl_driver.proofs.examples.serial_examples.Goals as goal

pub returns : goal.returns
unfolding answer system_of system_in lines_of line_at
returns c = record {
  rules = rules_are;
  describes_counting = counting_is;
  describes_doubling = doubling_is;
  runs_counting = counting_ends;
  runs_doubling = doubling_ends;
  counts = counting_said;
  doubles = doubling_said;
  two_cells = refl;
  open_table = refl;
  empty = refl;
  missing = refl;
  no_file = refl;
  minus = refl;
  other_command = refl;
}

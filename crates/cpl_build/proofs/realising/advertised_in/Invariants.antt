use Rattle.std.proofs.Common.{◌≡◌, [], drop, length}
use Rattle.cpl_build.specs.Outlines.{advertised_with}
use Rattle.cpl_build.proofs.realising.advertised_in.Given as goal

-- reading on gives what reading all gives; one candidate for each name so far
abbrev pub invariant-loop-name : goal.invariant-loop-name
invariant-loop-name l = record {
  rest : advertised_with l.items l.dict l.candidates.items (drop l.name-index l.names) ≡ advertised_with l.items l.dict [] l.names;
  count : length l.candidates.items ≡ l.name-index;
}

use Rattle.std.proofs.Common.{◌≡◌, drop, filter}
use Rattle.cpl_match.specs.Marks.{IsMarked}
use Rattle.cpl_match.specs.Matching.{is_import, matched_pairs, pairs_with}
use Rattle.cpl_match.proofs.matching.pairs_in.Given as goal

-- the pairs so far and those of the imports left are those of all imports
abbrev pub invariant-loop-place : goal.invariant-loop-place
invariant-loop-place l = record {
  marked : IsMarked l.scope.dict.now l.scope.numbers.now l.marks;
  rest : pairs_with l.scope.dict.now l.scope.cells.now l.scope.ways.now l.scope.ports.now l.pairs.items (filter is_import (drop l.place l.scope.ports.now))
      ≡ matched_pairs l.scope.dict.now l.scope.cells.now l.scope.ways.now l.scope.ports.now;
}

use Rattle.cpl_match.proofs.PairFacts.{ArePairs-matched}
use Rattle.cpl_match.proofs.matching.connect.Goals as goal

pub returns-clause-pairs : goal.returns-clause-pairs
returns-clause-pairs c = ArePairs-matched c.args.dict.now c.args.cells.now c.args.ways.now c.args.ports.now c.in_ok-pairs.pairs (rw (← c.in_ok-table.ensures) c.in_ok-pairs.ensures.value)

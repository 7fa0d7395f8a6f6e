use Rattle.cpl_match.proofs.BitFacts.{is_set-or}
use Rattle.cpl_match.proofs.bits.either.Goals as goal

pub returns : goal.returns
returns c = λ bit. is_set-or c.args.a c.args.b bit

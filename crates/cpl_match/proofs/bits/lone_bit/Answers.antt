use Rattle.std.proofs.Common.{refl}
use Rattle.cpl_match.proofs.BitFacts.{is_set-shl}
use Rattle.cpl_match.proofs.bits.lone_bit.Goals as goal

pub returns : goal.returns
returns c = λ other. is_set-shl c.args.bit other _ c.requires refl

use Rattle.std.specs.Prelude.{slice_index}
use Rattle.cpl_match.proofs.BitFacts.{is_set-shr}
use Rattle.cpl_match.proofs.bits.has_bit.Goals as goal

pub returns : goal.returns
returns c = is_set-shr (slice_index c.args.words.now c.args.place) c.args.bit

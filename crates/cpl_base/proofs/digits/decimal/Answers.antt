use Rattle.std.proofs.Common.{arith}
use Rattle.std.proofs.lemmas.Int.Digits.{digits_value_more}
use Rattle.cpl_base.proofs.DigitsFacts.{digit_value_at}
use Rattle.cpl_base.proofs.digits.decimal.Goals as goal

pub loop-digit-preserved : goal.loop-digit-preserved
loop-digit-preserved c =
    let digits = c.args.digits.now in
    let i = c.loop-digit.digit-index in
    let more = digits_value_more 10 digits i (omega arith) in
    let value = digit_value_at digits i c.requires (omega arith) in
    omega arith

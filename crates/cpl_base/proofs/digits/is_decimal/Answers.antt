use Rattle.std.proofs.Common.{◌<◌, ◌∙◌, length, rules, tests}
use Rattle.std.proofs.lemmas.Iterator.{YieldsList-from_slice}
use Rattle.std.proofs.lemmas.Iterator.Search.{all_from_yields_List}
use Rattle.cpl_base.specs.Numerals.{is_digit}
use Rattle.cpl_base.proofs.DigitsFacts.{are_digits-nonempty}
use Rattle.cpl_base.proofs.digits.is_decimal.Goals as goal

pub returns-then-not-is_empty : goal.returns-then-not-is_empty
returns-then-not-is_empty c =
    let text = c.args.text.now in
    let all = all_from_yields_List is_digit _ _ c.all.result c.all.ensures.ran (YieldsList-from_slice text cc) (λ x b q k. search (rules, tests)) in
    let some : 0 < length text = search (rules, tests) in
    all ∙ are_digits-nonempty text some

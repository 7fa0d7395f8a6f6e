use Rattle.std.proofs.Common.{◌≤◌, length, Option, IfSome, sym, arith, List, ℕ, subst}
use Rattle.std.specs.List.{join_with_byte}
use Rattle.cpl_base.specs.Words.{texts}
use Rattle.cpl_config.specs.Words.{values_of}
use Rattle.cpl_config.proofs.WordsFacts.{value_item-short}
use Rattle.cpl_config.proofs.reading.read_outside.Goals as goal

-- the values of an item are no longer than the words of its line
pub add_value-requires-clause-short : goal.add_value-requires-clause-short
add_value-requires-clause-short c =
    let words = texts c.args.words.now in
    let item = c.in-Some-value_item.item in
    let P : Option (List ℕ × List (List ℕ)) → Type 0 = λ o. IfSome o (λ v. length (join_with_byte 32 v.1) ≤ length (join_with_byte 32 words)) in
    let short : length (join_with_byte 32 (values_of item.first.now (texts item.more.now))) ≤ length (join_with_byte 32 words) = subst P (sym c.in-Some-value_item.ensures) (value_item-short words) in
    rw c.in_ok-row.ensures (omega arith)

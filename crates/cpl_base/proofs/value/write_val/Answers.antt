use Rattle.std.proofs.Common.{List, ℕ, ◌≡◌, ◌+◌, ◌++◌, ◌/◌, ◌%◌, ap, decimal, drop, rules, unsigned_abs, ◌∙◌}
use Rattle.std.proofs.lemmas.List.{append-nil, take_rest}
use Rattle.std.specs.Int.{is_negative}
use Rattle.cpl_base.specs.Numbers.{million}
use Rattle.cpl_base.specs.Numerals.{sign}
use Rattle.cpl_base.proofs.NumeralsFacts.{value_text-bytes_after}
use Rattle.cpl_base.proofs.value.write_val.Goals as goal
use Rattle.cpl_base.proofs.value.write_val.Goals.{then-v-lt0+in_ok-push, else-v-lt0}

-- the four calls append the parts of what is written
pub returns-clause-ok : goal.returns-clause-ok
returns-clause-ok c =
    let z = c.args.v in
    let old = c.args.out.now.items in
    let signed = c.if-v-lt0.out.items in
    let units = c.extend_from_slice.new.self.items in
    let pointed = c.push-2.new.self.items in
    let six = c.as_bytes-six.result.now in
    let sign_is : signed ≡ old ++ sign (is_negative z) = elim c.if-v-lt0.branch [
      | then-v-lt0+in_ok-push w ↦ search rules
      | else-v-lt0 w ↦ search (rules, append-nil)
    ] in
    let units_are : units ≡ signed ++ decimal (unsigned_abs z / million) = search rules in
    let six_is : six ≡ decimal (million + unsigned_abs z % million) = search rules in
    let behind = take_rest six 1 ∙ ap (λ (x : List ℕ). drop 1 x) six_is in
    value_text-bytes_after z old signed units pointed _ sign_is units_are c.in_ok-push-2.ensures.items (c.in_ok-extend_from_slice-2.ensures.items ∙ ap (λ (x : List ℕ). pointed ++ x) behind)

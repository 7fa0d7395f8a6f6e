use Rattle.std.proofs.Common.{◌+◌, ◌≡◌, ◌∙◌, ap, sym, arith, false, ◌||◌, ◌&&◌, ◌==◌}
use Rattle.cpl_match.specs.Marks.{has_bit, is_name, is_named}
use Rattle.cpl_match.proofs.MarkFacts.{is_named-next, is_named-same}
use Rattle.cpl_match.proofs.marks.note_ports.Goals as goal
use Rattle.cpl_match.proofs.marks.note_ports.Goals.{in-Some, in_default}

pub overflow_add-first : goal.overflow_add-first
overflow_add-first c = omega arith

pub loop-bit-preserved : goal.loop-bit-preserved
loop-bit-preserved c =
    let k = c.loop-bit.bit in
    let first = c.args.first in
    let numbers = c.args.numbers.now in
    elim c.match-number_at.branch [
      | in-Some w ↦ record {
        count = rw w.own-is (w.add_bits.ensures.count ∙ c.loop-bit.invariant.count);
        noted = λ name bit.
            let added : has_bit c.match-number_at.own.items name bit ≡ (has_bit c.loop-bit.own.items name bit || (name == w.in-Some.name && k == bit)) =
            rw (w.own-is, ← w.lone_bit.ensures bit) (w.add_bits.ensures.added name bit) in
            is_named-next numbers first k w.in-Some.name name bit (has_bit c.loop-bit.own.items name bit) (has_bit c.match-number_at.own.items name bit)
            (sym c.number_at.ensures ∙ w.in-Some.is) (c.loop-bit.invariant.noted name bit) added;
      }
      | in_default w ↦ record {
        count = rw w.own-is c.loop-bit.invariant.count;
        noted = λ name bit.
            let none : is_named numbers (first + k) name ≡ false = ap (λ o. is_name o name) (sym c.number_at.ensures ∙ w.in_default.is) in
            rw w.own-is (c.loop-bit.invariant.noted name bit ∙ is_named-same numbers first k name bit none);
      }
    ]

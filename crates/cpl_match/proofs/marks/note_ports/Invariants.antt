use Rattle.std.proofs.Common.{◌≡◌, ℕ, ◌+◌, ◌&&◌, length}
use Rattle.std.specs.Prelude.{nat_lt}
use Rattle.cpl_match.specs.Marks.{has_bit, is_named}
use Rattle.cpl_match.proofs.marks.note_ports.Given as goal

-- the ports so far are noted
abbrev pub invariant-loop-bit : goal.invariant-loop-bit
invariant-loop-bit l = record {
  count : length l.own.items ≡ length l.initial.own.items;
  noted : (name bit : ℕ) → has_bit l.own.items name bit ≡ (nat_lt bit l.bit && is_named l.numbers (l.first + bit) name);
}

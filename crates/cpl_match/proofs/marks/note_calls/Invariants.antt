use Rattle.std.proofs.Common.{◌≡◌, ℕ, length}
use Rattle.cpl_match.specs.Marks.{has_bit, shares_call}
use Rattle.cpl_match.proofs.marks.note_calls.Given as goal

-- the calls so far are noted
abbrev pub invariant-loop-call : goal.invariant-loop-call
invariant-loop-call l = record {
  count : length l.shared.items ≡ length l.initial.shared.items;
  noted : (name bit : ℕ) → has_bit l.shared.items name bit ≡ shares_call l.dict l.own l.call name bit;
}

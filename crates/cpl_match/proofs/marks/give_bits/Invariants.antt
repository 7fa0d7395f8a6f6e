use Rattle.std.proofs.Common.{◌≡◌, ℕ, ◌||◌, ◌&&◌, length, take}
use Rattle.cpl_dict.specs.Numbers.{has_number}
use Rattle.cpl_match.specs.Marks.{has_bit, is_set}
use Rattle.cpl_match.proofs.marks.give_bits.Given as goal

-- the names so far have the bits
abbrev pub invariant-loop-name : goal.invariant-loop-name
invariant-loop-name l = record {
  count : length l.shared.items ≡ length l.initial.shared.items;
  given : (name bit : ℕ) → has_bit l.shared.items name bit ≡ (has_bit l.initial.shared.items name bit || (has_number (take l.name-index l.names) name && is_set l.bits bit));
}

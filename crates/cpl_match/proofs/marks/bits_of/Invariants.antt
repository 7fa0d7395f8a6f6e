use Rattle.std.proofs.Common.{◌≡◌, ℕ, take}
use Rattle.std.specs.List.{list_any}
use Rattle.cpl_match.specs.Marks.{has_bit, is_set}
use Rattle.cpl_match.proofs.marks.bits_of.Given as goal

-- the bits of the names so far
abbrev pub invariant-loop-name : goal.invariant-loop-name
invariant-loop-name l = (bit : ℕ) → is_set l.bits bit ≡ list_any (λ name. has_bit l.own name bit) (take l.name-index l.names)

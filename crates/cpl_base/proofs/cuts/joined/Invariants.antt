use Rattle.std.proofs.Common.{◌≡◌, take}
use Rattle.std.specs.List.{join_with_byte}
use Rattle.cpl_base.specs.Words.{texts}
use Rattle.cpl_base.proofs.cuts.joined.Given as goal

-- the words so far are joined
abbrev pub invariant-loop-place : goal.invariant-loop-place
invariant-loop-place l = l.text.items ≡ join_with_byte 32 (texts (take l.place l.words))

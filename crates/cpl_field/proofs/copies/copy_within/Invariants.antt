use Rattle.cpl_field.specs.Copies.{IsCopiedTo}
use Rattle.cpl_field.proofs.copies.copy_within.Given as goal

-- the places so far are filled
abbrev pub invariant-loop-j : goal.invariant-loop-j
invariant-loop-j l = IsCopiedTo l.j l.to l.from l.initial.field l.initial.field l.field

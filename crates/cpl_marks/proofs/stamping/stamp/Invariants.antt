use Rattle.std.proofs.Common.{◌≡◌, take}
use Rattle.cpl_comp.specs.Marks.{stamps_at}
use Rattle.cpl_marks.proofs.stamping.stamp.Given as goal

-- the places so far are stamped
abbrev pub invariant-loop-number : goal.invariant-loop-number
invariant-loop-number l = l.stamps ≡ stamps_at l.time l.initial.stamps (take l.number l.places)

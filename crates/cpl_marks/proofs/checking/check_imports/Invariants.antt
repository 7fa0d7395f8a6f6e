use Rattle.std.proofs.Common.{◌≡◌, drop}
use Rattle.cpl_marks.specs.Faults.{least_fault, noted_fault}
use Rattle.cpl_marks.specs.Plans.{stamp_faults}
use Rattle.cpl_marks.specs.Turns.{turn_of}
use Rattle.cpl_marks.proofs.checking.check_imports.Given as goal

-- what is left to check finds what all find
abbrev pub invariant-loop-number : goal.invariant-loop-number
invariant-loop-number l =
    least_fault (noted_fault l.found) (stamp_faults (turn_of l.turn) l.stamps (drop l.number l.checked))
    ≡ least_fault (noted_fault l.initial.found) (stamp_faults (turn_of l.turn) l.stamps l.checked)

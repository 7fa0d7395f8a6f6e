use Rattle.std.proofs.Common.{◌≡◌, ◌+◌, ◌-◌, length, drop}
use Rattle.cpl_dict.specs.Kept.{IsAscending}
use Rattle.cpl_dict.specs.Numbers.{have_common}
use Rattle.cpl_dict.proofs.numbers.have_common.Given as goal

-- what is left of the lists has a number in common exactly where the lists have
abbrev pub invariant-loop-i : goal.invariant-loop-i
invariant-loop-i l =
    record {
      left_a : IsAscending 0 (drop l.i l.a);
      left_b : IsAscending 0 (drop l.j l.b);
      same : have_common (drop l.i l.a) (drop l.j l.b) ≡ have_common l.a l.b;
    }

abbrev pub decreases-loop-i : goal.decreases-loop-i
decreases-loop-i l = (length l.initial.a - l.i) + (length l.initial.b - l.j)

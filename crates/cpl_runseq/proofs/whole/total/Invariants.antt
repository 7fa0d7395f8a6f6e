use Rattle.std.proofs.Common.{◌≡◌, ◌+◌, ◌*◌, ◌≤◌, drop}
use Rattle.cpl_runseq.specs.Whole.{total_duration}
use Rattle.cpl_runseq.proofs.whole.total.Given as goal

-- the total so far and that of the loops that are left make up the whole, and each adds less than 2^64
abbrev pub invariant-loop-l : goal.invariant-loop-l
invariant-loop-l l =
    record {
      total_is : l.sum + total_duration (drop l.l-index l.loops) ≡ total_duration l.loops;
      below : l.sum ≤ l.l-index * 18446744073709551615;
    }

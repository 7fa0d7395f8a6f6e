use Rattle.std.proofs.Common.{◌≡◌, ◌+◌, ◌++◌}
use Rattle.std.specs.Vec.Iter.{into_iter_items}
use Rattle.cpl_runseq.specs.ReadingBounds.{full_length}
use Rattle.cpl_runseq.specs.Whole.{top_loops}
use Rattle.cpl_runseq.proofs.whole.top_loops.Given as goal

-- the loops so far and those that are left are all, and the durations so far and those that are left make up all
abbrev pub invariant-loop-read : goal.invariant-loop-read
invariant-loop-read l =
    record {
      tops_are : l.tops.items ++ top_loops l.begin l.rest (into_iter_items l.read-iterator) ≡ top_loops 0 l.rest l.fn.loops.items;
      begin_is : l.begin + full_length l.rest (into_iter_items l.read-iterator) ≡ full_length l.rest l.fn.loops.items;
    }

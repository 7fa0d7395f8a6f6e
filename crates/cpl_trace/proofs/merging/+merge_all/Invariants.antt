use Rattle.std.proofs.Common.{length}
use Rattle.cpl_trace.proofs.merging.+merge_all.Given as goal

-- each half has fewer logs
abbrev pub decreases-merge_all : goal.decreases-merge_all
decreases-merge_all l = length l.logs.now

use Rattle.std.proofs.Common.{◌≡◌, ◌+◌, ◌≤◌, ℕ, drop, length, map}
use Rattle.std.specs.List.{range_with_len}
use Rattle.cpl_smm.specs.Kept.{count_upto}
use Rattle.cpl_smm.proofs.rows.starts_of.Given as goal

-- the counts so far, and from this place on the counts of further cells
abbrev pub invariant-loop-dst : goal.invariant-loop-dst
invariant-loop-dst l = record {
  starts : l.starts.items ≡ map (λ dst. count_upto dst l.dsts) (range_with_len 0 l.dst);
  within : l.place ≤ length l.dsts;
  on : (dst : ℕ) → l.dst ≤ dst → count_upto dst l.dsts ≡ l.place + count_upto dst (drop l.place l.dsts);
}

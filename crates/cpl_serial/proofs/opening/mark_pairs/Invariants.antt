use Rattle.std.proofs.Common.{◌≡◌, ◌||◌, ℕ, false, length, take}
use Rattle.std.specs.List.{list_any}
use Rattle.std.specs.Prelude.{slice_index_or}
use Rattle.cpl_script.specs.Couplings.{is_pair_into}
use Rattle.cpl_serial.proofs.opening.mark_pairs.Given as goal

-- what the pairs passed feed is marked too
abbrev pub invariant-loop-pair : goal.invariant-loop-pair
invariant-loop-pair l = record {
  count : length l.flags.items ≡ length l.fn.flags.items;
  marked : (k : ℕ) → slice_index_or l.flags.items k false
      ≡ (slice_index_or l.fn.flags.items k false || list_any (is_pair_into l.component k) (take l.pair-index l.pairs));
}

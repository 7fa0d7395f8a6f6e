use Rattle.std.proofs.Common.{◌≡◌, ℕ, ◌<◌, length}
use Rattle.std.specs.Prelude.{slice_index}
use Rattle.cpl_match.proofs.bits.clear.Given as goal

-- the words so far are 0
abbrev pub invariant-loop-place : goal.invariant-loop-place
invariant-loop-place l = record {
  count : length l.words.items ≡ length l.initial.words.items;
  none : (place : ℕ) → place < l.place → slice_index l.words.items place ≡ 0;
}

use Rattle.std.proofs.Common.{◌≡◌, ◌||◌, ℕ, length, take}
use Rattle.cpl_smm.specs.Kept.{is_marked}
use Rattle.cpl_smm.specs.Needs.{has_source}
use Rattle.cpl_smm.proofs.marks.mark_sources.Given as goal

-- the sources so far are marked too
abbrev pub invariant-loop-entry : goal.invariant-loop-entry
invariant-loop-entry l = record {
  count : length l.marks.items ≡ length l.fn.marks.items;
  marked : (src : ℕ) → is_marked l.marks.items src ≡ (is_marked l.fn.marks.items src || has_source src (take l.entry-index l.row));
}

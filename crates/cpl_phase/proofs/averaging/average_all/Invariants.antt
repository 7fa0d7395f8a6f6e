use Rattle.std.proofs.Common.{◌≡◌, ◌≢◌, ◌<◌, ◌≤◌, ℕ, List, fold, length, take}
use Rattle.std.specs.List.{All}
use Rattle.std.specs.Prelude.{slice_index}
use Rattle.cpl_comp.specs.Worlds.{FieldWorld}
use Rattle.cpl_comp.specs.Writes.{average_write, emptied}
use Rattle.cpl_grid.specs.Owners.{Layout}
use Rattle.cpl_sweep.specs.Places.{field_at}
use Rattle.cpl_phase.specs.Kept.{AreAccums, StandForKept, accum_at}
use Rattle.cpl_phase.specs.Refreshed.{AreOnBlock}
use Rattle.cpl_phase.specs.Worlds.{HoldFields, IsWritten}
use Rattle.cpl_phase.proofs.averaging.average_all.Given as goal

-- the averages passed are written and forgotten, and what is kept for other fields is as it was
abbrev pub invariant-loop-j : goal.invariant-loop-j
invariant-loop-j l = record {
  written : (layout : Layout) (count : ℕ) (world : List FieldWorld) → layout.grid ≡ l.frame.grid
      → HoldFields l.frame count world l.fields → StandForKept l.frame count world l.initial.accums → All (λ k. k < count) l.places
      → (i : ℕ) → i < l.j → i < length l.places → IsWritten l.frame (average_write layout world (slice_index l.places i)) (field_at l.others i);
  kept : (count : ℕ) (world : List FieldWorld) → StandForKept l.frame count world l.initial.accums
      → StandForKept l.frame count (fold emptied world (take l.j l.places)) l.accums;
  same : (k : ℕ) → ((i : ℕ) → i < l.j → slice_index l.places i ≢ k) → accum_at l.accums k ≡ accum_at l.initial.accums k;
  accums : AreAccums (length l.sites.homes.items) (length l.initial.accums) l.accums;
  sums : (k : ℕ) → length (accum_at l.accums k).sums ≡ length (accum_at l.initial.accums k).sums;
  fewer : (k : ℕ) → (accum_at l.accums k).count ≤ (accum_at l.initial.accums k).count;
  aged : (bound : ℕ) → All (λ accum. accum.count ≤ bound) l.initial.accums → All (λ accum. accum.count ≤ bound) l.accums;
  others : AreOnBlock l.frame (length l.initial.others) l.others;
}

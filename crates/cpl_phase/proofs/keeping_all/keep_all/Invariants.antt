use Rattle.std.proofs.Common.{◌≡◌, ◌≢◌, ◌+◌, ◌<◌, ◌≤◌, ℕ, List, fold, length, map, take}
use Rattle.std.specs.List.{All}
use Rattle.std.specs.Prelude.{slice_index}
use Rattle.cpl_base.specs.Numbers.{IsValue}
use Rattle.cpl_block.specs.Frames.{places_in}
use Rattle.cpl_comp.specs.Readings.{Reading}
use Rattle.cpl_comp.specs.Worlds.{FieldWorld}
use Rattle.cpl_comp.specs.Writes.{kept_more}
use Rattle.cpl_entry.specs.Books.{entries_of}
use Rattle.cpl_rule.specs.Assigned.{IsAsRoomy, answers_of}
use Rattle.cpl_rule.specs.Inputs.{HoldReading, IsHaloed, arguments_of}
use Rattle.cpl_rule.specs.Moments.{IsAt}
use Rattle.cpl_phase.specs.Keeping.{IsAccumOf}
use Rattle.cpl_phase.specs.Kept.{StandForKept, accum_at}
use Rattle.cpl_phase.proofs.keeping_all.keep_all.Given as goal

-- the rows passed are kept
abbrev pub invariant-loop-j : goal.invariant-loop-j
invariant-loop-j g l = record {
  kept : (halo : List ℕ) (reading : Reading) (count : ℕ) (world : List FieldWorld)
      → IsAt l.scene.moment l.scene.frame.grid reading → reading.entries ≡ answers_of (entries_of l.book)
      → All (λ row. All (IsHaloed halo) (arguments_of row.rule)) l.rows
      → HoldReading l.scene.frame l.scene.fields halo reading l.fields
      → StandForKept l.scene.frame count world l.initial.accums
      → StandForKept l.scene.frame count (fold (kept_more reading) world (take l.j l.rows)) l.accums;
  accums : All (IsAccumOf (length l.sites.homes.items)) l.accums;
  sums : (k : ℕ) → length (accum_at l.accums k).sums ≡ length (accum_at l.initial.accums k).sums;
  same : (k : ℕ) → ((i : ℕ) → i < l.j → slice_index (map (λ row. row.field) l.rows) i ≢ k) → accum_at l.accums k ≡ accum_at l.initial.accums k;
  aged : (bound : ℕ) → All (λ accum. accum.count ≤ bound) l.initial.accums → All (λ accum. accum.count ≤ bound + 1) l.accums;
  room : IsAsRoomy l.initial.room l.room;
  further : length l.further ≡ places_in l.scene.frame;
  further_values : All IsValue l.further;
}

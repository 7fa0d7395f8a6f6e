use Rattle.std.proofs.Common.{◌≡◌, ◌<◌, ◌≤◌, All, filter, length}
use Rattle.std.specs.List.{range_with_len}
use Rattle.cpl_comp.specs.Turns.{has_role}
use Rattle.cpl_marks.proofs.places.places_of.Given as goal

-- the places so far
abbrev pub invariant-loop-place : goal.invariant-loop-place
invariant-loop-place l = record {
  value : l.places.items ≡ filter (has_role l.role l.fields) (range_with_len 0 l.place);
  within : All (λ k. k < length l.fields) l.places.items;
  few : length l.places.items ≤ l.place;
}

use Rattle.std.proofs.Common.{take}
use Rattle.cpl_match.specs.WayIndex.{IsIndexed}
use Rattle.cpl_match.proofs.way_table.way_places.Given as goal

-- the ways so far are found
abbrev pub invariant-loop-place : goal.invariant-loop-place
invariant-loop-place l = IsIndexed (take l.place l.ways) l.places.items

use Rattle.std.proofs.Common.{◌≡◌, ◌++◌, drop}
use Rattle.std.specs.List.{enumerate_from, filter_map}
use Rattle.cpl_phase.specs.Starts.{place_started, places_started}
use Rattle.cpl_phase.proofs.starting.started_places.Given as goal

-- those found, and those still to be found, are all
abbrev pub invariant-loop-k : goal.invariant-loop-k
invariant-loop-k l =
    l.places.items ++ filter_map place_started (enumerate_from l.k (drop l.k l.described)) ≡ places_started l.described

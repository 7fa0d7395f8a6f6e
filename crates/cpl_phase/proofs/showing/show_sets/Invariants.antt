use Rattle.std.proofs.Common.{length, map, take}
use Rattle.cpl_phase.specs.Shown.{AreShownFor}
use Rattle.cpl_phase.proofs.showing.show_sets.Given as goal

-- the fields passed are lined up
abbrev pub invariant-loop-j : goal.invariant-loop-j
invariant-loop-j l = AreShownFor l.frame (length l.sites.homes.items) (map (λ row. row.field) (take l.j l.rows)) l.fields l.initial.shown l.shown

use Rattle.std.proofs.Common.{◌*◌}
use Rattle.cpl_sweep.specs.Places.{value_at}
use Rattle.cpl_sweep.proofs.StripsFacts.{IsSweptUpTo}
use Rattle.cpl_sweep.proofs.sweeping.sweep.Given as goal

-- the strips so far are swept
abbrev pub invariant-loop-strip : goal.invariant-loop-strip
invariant-loop-strip l = IsSweptUpTo (128 * l.strip) (value_at l.places l.fields l.tree) l.these

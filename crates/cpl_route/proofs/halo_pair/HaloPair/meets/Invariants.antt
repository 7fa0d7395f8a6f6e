use Rattle.std.proofs.Common.{◌≡◌, false, take}
use Rattle.cpl_route.specs.Reach.{is_met}
use Rattle.cpl_route.proofs.halo_pair.HaloPair.meets.Given as goal

abbrev pub invariant-loop-offset : goal.invariant-loop-offset
invariant-loop-offset l =
    is_met l.self.columns l.self.rows (take l.offset-index l.self.offsets.now) l.row l.column ≡ false

use Rattle.std.proofs.Common.{◌≡◌, eqb, false, take}
use Rattle.std.specs.List.{list_any}
use Rattle.cpl_route.specs.Reach.{steps_from_least}
use Rattle.cpl_route.proofs.reach.is_used_across.Given as goal

abbrev pub invariant-loop-offset : goal.invariant-loop-offset
invariant-loop-offset l =
    list_any (λ offset. eqb (steps_from_least offset.0) l.steps) (take l.offset-index l.offsets) ≡ false

use Rattle.std.proofs.Common.{◌^◌}
use Rattle.cpl_route.specs.Reach.{IsReachIn, IsWithin}
use Rattle.cpl_route.proofs.ReachFacts.{All-five, within-around}
use Rattle.cpl_route.proofs.reach.together.Goals as goal

pub returns-clause-small : goal.returns-clause-small
returns-clause-small c =
    All-five (IsReachIn (2 ^ 20)) c.args.far_back c.args.back c.args.here c.args.ahead c.args.far_ahead
    c.requires.far_back c.requires.back c.requires.here c.requires.ahead c.requires.far_ahead

pub returns-clause-hull : goal.returns-clause-hull
returns-clause-hull c =
    All-five (IsWithin c.around-hull.result) c.args.far_back c.args.back c.args.here c.args.ahead c.args.far_ahead
    (within-around c.hull_of.result c.around-hull.result c.args.far_back c.hull_of.ensures.reach (λ i held. c.around-hull.ensures.one i (c.around.ensures.one i (c.around-before.ensures.one i held))))
    (within-around c.hull_of-2.result c.around-hull.result c.args.back c.hull_of-2.ensures.reach (λ i held. c.around-hull.ensures.one i (c.around.ensures.one i (c.around-before.ensures.other i held))))
    (within-around c.hull_of-5.result c.around-hull.result c.args.here c.hull_of-5.ensures.reach (λ i held. c.around-hull.ensures.one i (c.around.ensures.other i held)))
    (within-around c.hull_of-3.result c.around-hull.result c.args.ahead c.hull_of-3.ensures.reach (λ i held. c.around-hull.ensures.other i (c.around-after.ensures.one i held)))
    (within-around c.hull_of-4.result c.around-hull.result c.args.far_ahead c.hull_of-4.ensures.reach (λ i held. c.around-hull.ensures.other i (c.around-after.ensures.other i held)))

use Rattle.cpl_route.proofs.HaloFacts.{far-columns, far-own, far-rows, part-same}
use Rattle.cpl_route.proofs.halo_pair.HaloPair.is_far.Goals as goal

pub returns-then-misses : goal.returns-then-misses
returns-then-misses c =
    λ far. far-columns c.args.self.now c.args.part c.requires.sound c.requires.part (c.misses.ensures c.if-misses.true)

pub returns-then-misses-2 : goal.returns-then-misses-2
returns-then-misses-2 c =
    λ far. far-rows c.args.self.now c.args.part c.requires.sound c.requires.part (c.misses-2.ensures c.if-misses-2.true)

pub returns : goal.returns
returns c =
    λ same. far-own c.args.self.now c.args.part c.requires.sound c.requires.part (part-same c.args.part c.args.self.now.part c.eq.result c.eq.ensures same)

use Rattle.cpl_route.proofs.HaloFacts.{halo-alike, opposite-true, row-alike}
use Rattle.cpl_route.proofs.halo_pair.HaloPairNeeds.alike_to.Goals as goal

pub returns-then-not-near : goal.returns-then-not-near
returns-then-not-near c =
    row-alike c.args.self.now c.args.row c.args.limit c.block_stretch-near.result.end c.block_stretch-near.result.needed
    c.requires.sound c.requires.limit c.block_stretch-near.ensures.some c.block_stretch-near.ensures.within c.block_stretch-near.ensures.same (opposite-true c.block_stretch-near.result.needed c.if-not-near.true)

pub returns : goal.returns
returns c =
    halo-alike c.args.self.now c.args.row c.args.limit c.block_stretch-own.result.end c.stretch_end.result c.block_stretch-own.result.needed
    c.requires.sound c.requires.limit c.block_stretch-own.ensures.some c.block_stretch-own.ensures.within c.block_stretch-own.ensures.same c.stretch_end.ensures

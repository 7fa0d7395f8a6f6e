use Rattle.std.proofs.Common.{◌≡◌, false, ◌&&◌, sym, ◌∙◌}
use Rattle.cpl_route.specs.Places.{is_held}
use Rattle.cpl_route.proofs.HaloFacts.{and_false-left, and_false-right, column-stretch, halo-stretch, opposite-true, own-stretch, row-stretch}
use Rattle.cpl_route.proofs.halo_pair.HaloPairNeeds.stretch.Goals as goal
use Rattle.cpl_route.proofs.halo_pair.HaloPairNeeds.stretch.Goals.{else-own-via-then-own+else-holds, else-own-via-else-own}

pub returns-then-not-holds : goal.returns-then-not-holds
returns-then-not-holds c =
    row-stretch c.args.self.now c.args.row c.args.column c.args.limit c.requires.sound c.requires.row c.requires.column c.requires.limit
    (sym c.holds.ensures ∙ c.if-not-holds.true)

pub returns-then-not-near : goal.returns-then-not-near
returns-then-not-near c =
    column-stretch c.args.self.now c.args.row c.args.column c.args.limit c.block_stretch-near.result c.requires.sound c.requires.row c.requires.limit
    c.block_stretch-near.ensures.some c.block_stretch-near.ensures.within c.block_stretch-near.ensures.same (opposite-true c.block_stretch-near.result.needed c.if-not-near.true)

pub returns-then-holds : goal.returns-then-holds
returns-then-holds c =
    own-stretch c.args.self.now c.args.row c.args.column c.args.limit c.block_stretch-own.result.end c.block_stretch-own.result.needed
    c.requires.sound c.requires.row c.requires.limit c.block_stretch-own.ensures.some c.block_stretch-own.ensures.within c.block_stretch-own.ensures.same
    c.if-own.true (sym c.holds-then-own.ensures ∙ c.if-holds.true)

pub returns : goal.returns
returns c =
    let other : (c.block_stretch-own.result.needed && is_held c.args.self.now.part.rows c.args.row) ≡ false =
    elim c.else-own.branch [
      | else-own-via-then-own+else-holds w ↦ and_false-right c.block_stretch-own.result.needed (is_held c.args.self.now.part.rows c.args.row) (sym w.holds-then-own.ensures ∙ w.if-holds.false)
      | else-own-via-else-own w ↦ and_false-left c.block_stretch-own.result.needed (is_held c.args.self.now.part.rows c.args.row) w.if-own.false
    ] in
    halo-stretch c.args.self.now c.args.row c.args.column c.args.limit c.block_stretch-own.result.end c.stretch_end-end.result c.block_stretch-own.result.needed c.meets.result
    c.requires.sound c.requires.row c.requires.limit c.block_stretch-own.ensures.within c.block_stretch-own.ensures.same other c.stretch_end-end.ensures c.meets.ensures

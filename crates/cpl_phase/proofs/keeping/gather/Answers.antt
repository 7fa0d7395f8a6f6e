use Rattle.std.proofs.Common.{◌∙◌, ◌≤◌, length, ap, arith, map, sym}
use Rattle.std.proofs.lemmas.List.{take_all}
use Rattle.cpl_block.specs.Frames.{value_at}
use Rattle.cpl_phase.proofs.KeepingFacts.{at-homes}
use Rattle.cpl_phase.proofs.keeping.gather.Goals as goal

pub returns : goal.returns
returns c =
    let homes = c.args.sites.now.homes.items in
    let all : length c.loop-k.cells ≤ c.loop-k.k = omega (arith, c.loop-k-test.false) in
    let also : length homes ≤ c.loop-k.k = omega (arith, all, c.requires.cells, c.loop-k.auto.cells) in
    sym (take_all c.loop-k.k c.loop-k.cells all)
    ∙ c.loop-k.invariant
    ∙ ap (map (value_at c.args.field.now)) (take_all c.loop-k.k homes also)
    ∙ at-homes c.args.frame.now c.args.sites.now c.requires.sites c.args.field.now

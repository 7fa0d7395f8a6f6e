use Rattle.std.proofs.Common.{arith, ap, ◌∙◌, ◌++◌, []}
use Rattle.cpl_route.proofs.PickFacts.{pickers-count, shared-listed}
use Rattle.cpl_route.specs.declared.need.Need.{Need}
use Rattle.cpl_route.proofs.pick.PickSharing.push.Goals as goal

-- what stands for a list that isn't there
abbrev no_need : Need
no_need = record { pet = 0; cells = [] }

pub listed-listed-requires-clause-place : goal.listed-listed-requires-clause-place
listed-listed-requires-clause-place c =
    let place = c.requires.place in
    omega (arith, pickers-count c.args.self.now.needs.now c.requires.sound.ascending)

pub returns : goal.returns
returns c =
    let place = c.requires.place in
    c.in_ok-push_cells.ensures
    ∙ ap (λ xs. c.args.out.now.items ++ xs) (shared-listed c.args.self.now.src.now c.args.self.now.needs.now c.args.from c.args.place no_need c.part.result c.listed-listed.result.grid c.listed-listed.result.cells.now
    c.part.ensures.is_part c.requires.sound.ascending (omega (arith, pickers-count c.args.self.now.needs.now c.requires.sound.ascending)) c.listed-listed.ensures.grid (c.listed-listed.ensures.cells no_need))

use Rattle.std.proofs.Common.{sym, arith, ◌∙◌, ◌<◌, length, []}
use Rattle.cpl_route.proofs.PickFacts.{pickers-at, pickers-count}
use Rattle.cpl_route.specs.declared.need.Need.{Need}
use Rattle.cpl_route.proofs.pick.PickSharing.receiver.Goals as goal

-- what stands for a list that isn't there
abbrev no_need : Need
no_need = record { pet = 0; cells = [] }

pub pet-requires : goal.pet-requires
pet-requires c =
    let place = c.requires.place in
    omega (arith, pickers-count c.args.self.now.needs.now c.requires.sound.ascending)

pub returns : goal.returns
returns c =
    let place = c.requires.place in
    let inside : c.args.place < length c.args.self.now.needs.now = omega (arith, pickers-count c.args.self.now.needs.now c.requires.sound.ascending) in
    c.pet.ensures no_need ∙ sym (pickers-at c.args.self.now.needs.now c.args.place no_need c.requires.sound.ascending inside)

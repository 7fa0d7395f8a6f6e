use Rattle.std.proofs.Common.{◌≡◌, ◌+◌, ◌*◌, ◌/◌, ◌%◌, arith, ◌∙◌, ap}
use Rattle.std.proofs.lemmas.Nat.{div-add-mod'}
use Rattle.cpl_route.proofs.OwnedFacts.{row-elsewhere, same-height, stretch-elsewhere}
use Rattle.cpl_route.proofs.owned.OwnedNeeds.stretch.Goals as goal

pub in_row-requires-clause-row : goal.in_row-requires-clause-row
in_row-requires-clause-row c =
    let wide : c.args.self.now.grid.nx ≡ c.args.self.now.dst.now.grid.nx = c.if-self-width.true ∙ ap (λ g. g.nx) c.grid-width.ensures.value in
    let high = same-height _ _ _ _ c.requires.sound.cells wide c.requires.sound.is_grid.columns in
    let row = c.requires.row in
    omega arith

pub in_row-found-requires-clause-row : goal.in_row-found-requires-clause-row
in_row-found-requires-clause-row c =
    let some = c.requires.sound.layout.grid.columns in
    rw c.grid-width.ensures.value (row-elsewhere c.args.self.now.grid.nx c.args.self.now.grid.ny c.args.row c.args.column c.args.limit
    c.args.self.now.dst.now.grid.nx c.args.self.now.dst.now.grid.ny c.requires.row c.requires.column c.requires.limit c.requires.sound.cells some)

pub returns : goal.returns
returns c =
    let width = c.grid-width.result.nx in
    let place = c.args.row * c.args.self.now.grid.nx + c.args.column in
    let same : place % width + place / width * width ≡ place = omega (arith, div-add-mod' place width) in
    let least = c.min.ensures in
    let is_width = ap (λ g. g.nx) c.grid-width.ensures.value in
    stretch-elsewhere _ c.args.self.now.grid.nx c.args.row c.args.column c.args.limit _ width (place / width) (place % width) c.min.result
    c.in_row-found.result is_width same (omega arith) c.requires.column c.in_row-found.ensures

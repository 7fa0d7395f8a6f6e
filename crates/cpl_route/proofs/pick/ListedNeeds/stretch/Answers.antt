use Rattle.std.proofs.Common.{arith, refl}
use Rattle.cpl_route.proofs.PickFacts.{stretch-behind, stretch-between, stretch-run}
use Rattle.cpl_route.proofs.pick.ListedNeeds.stretch.Goals as goal

pub returns-then-place-self : goal.returns-then-place-self
returns-then-place-self c =
    stretch-behind c.args.self.now.cells.now c.args.self.now.grid.nx c.args.row c.args.column c.args.limit
    (λ k inside. c.first_from-place.ensures.before k (omega arith)) c.requires.column

pub returns-then-next-cell : goal.returns-then-next-cell
returns-then-next-cell c =
    let least = c.min.ensures in
    let column = c.requires.column in
    let above = c.if-next-cell.true in
    stretch-between c.args.self.now.cells.now c.args.self.now.grid.nx c.args.row c.args.column c.args.limit c.first_from-place.result _
    c.requires.sound.ascending c.first_from-place.ensures.before c.if-place-self.false refl c.if-next-cell.true c.requires.column
    _ (omega arith) (omega arith) (omega arith)

pub returns : goal.returns
returns c =
    let behind = c.first_from-place.ensures.behind c.first_from-place.result (omega arith) c.if-place-self.false in
    let upto = c.if-next-cell.false in
    stretch-run c.args.self.now.cells.now c.args.self.now.grid.nx c.args.row c.args.column c.args.limit _ c.run_from.result (omega arith)
    c.run_from.ensures.some c.run_from.ensures.within c.run_from.ensures.listed

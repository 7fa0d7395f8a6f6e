use Rattle.std.proofs.Common.{◌≡◌, [], ap, ◌∙◌}
use Rattle.std.proofs.lemmas.List.{drop_all}
use Rattle.cpl_match.specs.Matching.{best_ports, pair_of}
use Rattle.cpl_match.proofs.matching.pair.Goals as goal

pub returns-in-None-found : goal.returns-in-None-found
returns-in-None-found c =
    let scope = c.args.scope in
    let import = c.args.import.port.now in
    let all = drop_all c.loop-place.place scope.ports.now c.loop-place-test.false in
    let none : [] ≡ best_ports scope.dict.now scope.ways.now scope.ports.now import = rw (c.in-None-found.is, all) at c.loop-place.invariant.rest in
    c.none_found.ensures scope.cells.now scope.ways.now ∙ ap (pair_of scope.cells.now scope.ways.now import) none

use Rattle.std.proofs.Common.{length, subst, sym}
use Rattle.std.proofs.lemmas.Option.{slice_get-get_or}
use Rattle.cpl_match.specs.Marks.{AreBelow}
use Rattle.cpl_match.proofs.MarkFacts.{number_of-ports_below}
use Rattle.cpl_match.proofs.matching.pairs_in.Goals as goal

pub new-requires : goal.new-requires
new-requires c =
    subst (AreBelow (length c.args.scope.dict.now.names)) (sym c.requires.numbered) (number_of-ports_below c.args.scope.dict.now c.args.scope.ports.now)

pub turn_to-requires-clause-numbers : goal.turn_to-requires-clause-numbers
turn_to-requires-clause-numbers c =
    subst (AreBelow (length c.args.scope.dict.now.names)) (sym c.requires.numbered) (number_of-ports_below c.args.scope.dict.now c.args.scope.ports.now)

pub pair_at-requires-clause-port : goal.pair_at-requires-clause-port
pair_at-requires-clause-port c =
    slice_get-get_or c.args.scope.ports.now c.loop-place.place c.index-scope-place.result c.loop-place-test.true

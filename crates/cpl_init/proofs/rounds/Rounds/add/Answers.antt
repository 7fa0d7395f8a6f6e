use Rattle.std.proofs.Common.{◌<◌, arith}
use Rattle.cpl_init.specs.declared.needs.Needs.{Needs}
use Rattle.cpl_init.proofs.RoundFacts.{IsRounds-more, IsRounds-no_more}
use Rattle.cpl_init.proofs.rounds.Rounds.add.Goals as goal

-- what a place past the end would give
nothing : Needs
nothing = record { component = 0; producer = 0 }

pub overflow_add-index_mut : goal.overflow_add-index_mut
unfolding nothing
overflow_add-index_mut c =
    let rounds = c.args.self.now in
    let fits : rounds.count < 256 = omega arith in
    let more = IsRounds-more rounds.count c.args.needs.now c.args.i nothing rounds.needed.items rounds.missing.items rounds.placed.items c.from-component.result c.from.result c.from-2.result c.index.result.now c.index_mut-then-not-index.result.now c.requires.needs c.requires.there c.requires.rounds c.from-component.ensures c.from.ensures c.from-2.ensures c.index.ensures c.if-not-index.true c.index_mut-then-not-index.ensures.value in
    omega (arith, more.1)

pub returns-then-not-index-clause-rounds : goal.returns-then-not-index-clause-rounds
unfolding nothing
returns-then-not-index-clause-rounds c =
    let rounds = c.args.self.now in
    let more = IsRounds-more rounds.count c.args.needs.now c.args.i nothing rounds.needed.items rounds.missing.items rounds.placed.items c.from-component.result c.from.result c.from-2.result c.index.result.now c.index_mut-then-not-index.result.now c.requires.needs c.requires.there c.requires.rounds c.from-component.ensures c.from.ensures c.from-2.ensures c.index.ensures c.if-not-index.true c.index_mut-then-not-index.ensures.value in
    more.0

pub returns-else-not-index-clause-rounds : goal.returns-else-not-index-clause-rounds
unfolding nothing
returns-else-not-index-clause-rounds c =
    let rounds = c.args.self.now in
    IsRounds-no_more rounds.count c.args.needs.now c.args.i nothing rounds.needed.items rounds.missing.items rounds.placed.items c.from-component.result c.from.result c.from-2.result c.index.result.now c.requires.needs c.requires.there c.requires.rounds c.from-component.ensures c.from.ensures c.from-2.ensures c.index.ensures c.if-not-index.false

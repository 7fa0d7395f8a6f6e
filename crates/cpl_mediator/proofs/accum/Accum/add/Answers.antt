use Rattle.std.proofs.Common.{arith, rules}
use Rattle.std.proofs.lemmas.Grind.{common_steps}
use Rattle.cpl_mediator.proofs.AveragesFacts.{StandsFor-push}
use Rattle.cpl_mediator.proofs.accum.Accum.add.Goals as goal

pub returns-clause-stands : goal.returns-clause-stands
returns-clause-stands c = λ kept stands. StandsFor-push c.args.self.now _ kept c.args.values.now stands c.requires.cells (search rules) (grind (arith, common_steps))

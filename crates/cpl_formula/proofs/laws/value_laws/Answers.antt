use Rattle.cpl_formula.proofs.ValuesFacts.{value_of-within}
use Rattle.cpl_formula.proofs.laws.value_laws.Goals as goal

pub returns : goal.returns
returns c = record { within = λ inputs tree values over. value_of-within inputs values tree over }

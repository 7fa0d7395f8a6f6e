-- Reading the tokens of a derivation gives that derivation; what is tangled is found where it stands; reading gives the outcome,
-- and a formula that can be evaluated, over reads among the names given.
use Rattle.std.proofs.Common.{Ok}
use Rattle.cpl_formula.proofs.Answers.{gives-over, gives-reads}
use Rattle.cpl_formula.proofs.Facts.{unambiguous}
use Rattle.cpl_formula.proofs.Outcomes.{outcome}
use Rattle.cpl_formula.proofs.TangledLaws.{tangles_found, found_tangles}
use Rattle.cpl_formula.proofs.laws.grammar_laws.Goals as goal

pub returns : goal.returns
returns c = record {
  unambiguous = unambiguous;
  tangles = tangles_found;
  tangled = found_tangles;
  computed = outcome;
  over = λ fields alarms text p computed. gives-over fields alarms text (Ok p) computed;
  among = λ fields alarms text p computed. gives-reads fields alarms text (Ok p) computed;
}

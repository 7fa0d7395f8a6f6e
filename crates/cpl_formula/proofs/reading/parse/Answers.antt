-- What reading makes of a text is its outcome and its only one, can be evaluated, and reads what was named.
use Rattle.cpl_formula.proofs.Answers.{answer-gives, gives-over, gives-reads}
use Rattle.cpl_formula.proofs.reading.parse.Goals as goal

pub returns-clause-answer : goal.returns-clause-answer
returns-clause-answer c = answer-gives c.args.fields.now c.args.alarms.now c.args.text.now c.read.result c.read.ensures

pub returns-clause-over : goal.returns-clause-over
returns-clause-over c = gives-over c.args.fields.now c.args.alarms.now c.args.text.now c.read.result c.read.ensures

pub returns-clause-reads : goal.returns-clause-reads
returns-clause-reads c = gives-reads c.args.fields.now c.args.alarms.now c.args.text.now c.read.result c.read.ensures

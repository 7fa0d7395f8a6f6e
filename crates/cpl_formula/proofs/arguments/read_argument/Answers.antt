-- What a word that is no number stands for is among the names given.
use Rattle.std.proofs.Common.{Result, IfOk, length, sym, subst}
use Rattle.cpl_formula.specs.Arguments.{IsArgument, name_word}
use Rattle.cpl_formula.specs.declared.arguments.Argument.{Argument}
use Rattle.cpl_formula.specs.declared.fault.FormulaFault.{FormulaFault}
use Rattle.cpl_formula.proofs.ArgumentsFacts.{cell_argument-among}
use Rattle.cpl_formula.proofs.arguments.read_argument.Goals as goal

pub returns-in-Err-Digits-clause-among : goal.returns-in-Err-Digits-clause-among
returns-in-Err-Digits-clause-among c =
    subst (λ (given : Result Argument FormulaFault). IfOk given (IsArgument (length c.args.fields.now) (length c.args.alarms.now))) (sym c.read_cell.ensures)
    (cell_argument-among c.args.fields.now c.args.alarms.now c.args.at (name_word c.args.word.now))

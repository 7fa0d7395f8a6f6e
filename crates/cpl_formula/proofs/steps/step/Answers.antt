-- The step of the mode that stands; an offset keeps its value as it is handed on.
use Rattle.std.proofs.Common.{rules, w8, SFits}
use Rattle.std.proofs.lemmas.Int.{to_z-of_z}
use Rattle.cpl_formula.proofs.steps.step.Goals as goal

pub returns-in-Between-clause-gives : goal.returns-in-Between-clause-gives
returns-in-Between-clause-gives c =
    let fits : SFits w8 c.in-Between.dx = search rules in
    let taken = rw (to_z-of_z w8 c.in-Between.dx fits) at (c.between.ensures c.args.reads.now.keys) in
    rw c.in-Between.is taken

pub returns-in-Row-clause-gives : goal.returns-in-Row-clause-gives
returns-in-Row-clause-gives c =
    let fits : SFits w8 c.in-Row.dx = search rules in
    let taken = rw (to_z-of_z w8 c.in-Row.dx fits) at (c.row.ensures c.args.reads.now.keys) in
    rw c.in-Row.is taken

use Rattle.std.proofs.Common.{◌∙◌, ap}
use Rattle.cpl_marks.specs.Faults.{least_fault, noted_fault}
use Rattle.cpl_marks.specs.Held.{marks_in}
use Rattle.cpl_marks.specs.Turns.{turn_of}
use Rattle.cpl_marks.proofs.PlanFacts.{faults-same}
use Rattle.cpl_marks.proofs.checking.check_marks.Goals as goal

pub returns : goal.returns
returns c = λ comp phase connected world is same held.
    c.check_planned.ensures
    ∙ ap (least_fault (noted_fault c.args.found.now))
    (faults-same c.args.kind (marks_in c.args.marks.now) comp phase (turn_of c.args.turn.now) connected world c.args.plan.now is same held)

use Rattle.std.proofs.Common.{◌∙◌, ap}
use Rattle.cpl_marks.specs.Faults.{least_fault, noted_fault}
use Rattle.cpl_phase.specs.Checks.{accum_faults}
use Rattle.cpl_phase.proofs.AccumCheckFacts.{same-averages}
use Rattle.cpl_phase.proofs.kept_checks.check_averages.Goals as goal

pub returns : goal.returns
returns c = λ frame count world kept below.
    c.check_places.ensures
    ∙ ap (λ places. least_fault (noted_fault c.args.found.now) (accum_faults c.args.accums.now places)) c.items.ensures
    ∙ ap (least_fault (noted_fault c.args.found.now)) (same-averages frame count world c.args.accums.now kept 0 c.args.phase.now.averages below)

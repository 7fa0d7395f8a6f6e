use Rattle.std.proofs.Common.{◌∙◌, ap}
use Rattle.cpl_marks.specs.Faults.{least_fault, noted_fault}
use Rattle.cpl_phase.proofs.CheckFacts.{same-block}
use Rattle.cpl_phase.proofs.checking.check_ranges.Goals as goal

pub returns-clause-world : goal.returns-clause-world
returns-clause-world c = λ count world hold below.
    c.check_sites.ensures
    ∙ ap (least_fault (noted_fault c.args.found.now)) (same-block c.args.frame.now count world c.args.fields.now hold c.args.rows.now below)

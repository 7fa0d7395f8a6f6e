use Rattle.std.proofs.Common.{◌∙◌, ap, refl, subst, sym}
use Rattle.std.specs.Prelude.{◌<◌, length}
use Rattle.cpl_comp.specs.Marks.{marks_after_run}
use Rattle.cpl_marks.specs.Plans.{IsPlanWithin}
use Rattle.cpl_marks.specs.Turns.{turn_of}
use Rattle.cpl_phase.proofs.AcceptedFacts.{member-is}
use Rattle.cpl_phase.proofs.ListFacts.{read-member}
use Rattle.cpl_phase.proofs.RunFacts.{ended-held, ended-kept, ended-marks, ended-shown}
use Rattle.cpl_phase.proofs.local.LocalComp.end.Goals as goal

pub end_step-requires-clause-plan : goal.end_step-requires-clause-plan
end_step-requires-clause-plan c =
    let local = c.requires.local in
    let plans = c.args.self.now.plans in
    let plan = c.index-items-phase.result in
    let below = subst (λ n. c.args.phase < n) (sym local.plans.number) c.requires.phase in
    let there = read-member plans c.items.result.now c.args.phase plan c.items.ensures c.index-items-phase.is below in
    subst (λ n. IsPlanWithin n plan) (sym local.stamps)
    (member-is (IsPlanWithin (length c.args.comp.now.fields)) plans c.args.phase plan there local.plans.within)

pub returns-clause-after : goal.returns-clause-after
returns-clause-after c = λ stage world there stands.
    let comp = c.args.comp.now in
    let local = c.args.self.now in
    let count = length comp.fields in
    let turn = turn_of c.args.turn.now in
    let plan = c.index-items-phase.result in
    let below = subst (λ n. c.args.phase < n) (sym c.requires.local.plans.number) c.requires.phase in
    let plan_there = read-member local.plans c.items.result.now c.args.phase plan c.items.ensures c.index-items-phase.is below in
    let marks = c.end_step.ensures.marks comp stage local.connected (c.requires.local.plans.each c.args.phase stage plan there plan_there) refl in
    record {
      marks = ended-marks comp stage turn world ∙ ap (marks_after_run comp stage turn) stands.marks ∙ sym marks;
      values = ended-held comp stage turn world local.frame count local.fields stands.values;
      kept = ended-kept comp stage turn world local.frame count local.accums stands.kept;
      shown = ended-shown comp stage turn world local.frame count local.shown stands.shown;
    }

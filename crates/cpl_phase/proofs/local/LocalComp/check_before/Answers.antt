use Rattle.std.proofs.Common.{◌∙◌, ap, refl, subst, sym}
use Rattle.std.specs.Prelude.{◌≡◌, ◌<◌, All, length}
use Rattle.cpl_comp.specs.RunFaults.{average_faults, first_faults}
use Rattle.cpl_comp.specs.declared.component.Phase.{Phase}
use Rattle.cpl_marks.proofs.FaultFacts.{least_fault-append}
use Rattle.cpl_marks.specs.Faults.{least_fault, noted_fault}
use Rattle.cpl_marks.specs.Plans.{IsPlanWithin, is_connected}
use Rattle.cpl_marks.specs.Turns.{turn_of}
use Rattle.cpl_phase.proofs.AcceptedFacts.{averages-below, member-is}
use Rattle.cpl_phase.proofs.ListFacts.{read-member, same-member}
use Rattle.cpl_phase.specs.Kept.{StandForKept}
use Rattle.cpl_phase.proofs.local.LocalComp.check_before.Goals as goal

pub check_marks-requires-clause-plan : goal.check_marks-requires-clause-plan
check_marks-requires-clause-plan c =
    let local = c.requires.local in
    let plans = c.args.self.now.plans in
    let plan = c.index-items-place.result in
    let below = subst (λ n. c.args.phase < n) (sym local.plans.number) c.requires.phase in
    let there = read-member plans c.items.result.now c.args.phase plan c.items.ensures c.index-items-place.is below in
    subst (λ n. IsPlanWithin n plan) (sym local.stamps)
    (member-is (IsPlanWithin (length c.args.comp.now.fields)) plans c.args.phase plan there local.plans.within)

pub check_averages-requires-clause-places : goal.check_averages-requires-clause-places
check_averages-requires-clause-places c =
    let comp = c.args.comp.now in
    let stage = c.index-items-place-2.result in
    let there = read-member comp.phases c.items-2.result.now c.args.phase stage c.items-2.ensures c.index-items-place-2.is c.requires.phase in
    subst (λ n. All (λ k. k < n) stage.averages) (sym (ap length c.items-3.ensures ∙ c.requires.local.accums.number))
    (averages-below c.requires.accepted.limits comp c.requires.accepted.is stage c.args.phase there)

pub returns : goal.returns
returns c = λ stage world there stands.
    let comp = c.args.comp.now in
    let local = c.args.self.now in
    let turn = turn_of c.args.turn.now in
    let plan = c.index-items-place.result in
    let below = subst (λ n. c.args.phase < n) (sym c.requires.local.plans.number) c.requires.phase in
    let plan_there = read-member local.plans c.items.result.now c.args.phase plan c.items.ensures c.index-items-place.is below in
    let read = c.index-items-place-2.result in
    let read_there = read-member comp.phases c.items-2.result.now c.args.phase read c.items-2.ensures c.index-items-place-2.is c.requires.phase in
    let same : read ≡ stage = same-member comp.phases c.args.phase read stage read_there there in
    let firsts = first_faults comp stage turn (is_connected local.connected) world in
    let one = c.check_marks.ensures comp stage local.connected world
    (c.requires.local.plans.each c.args.phase stage plan there plan_there) refl stands.marks in
    let averages = averages-below c.requires.accepted.limits comp c.requires.accepted.is read c.args.phase read_there in
    let accums = subst (λ xs. StandForKept local.frame (length comp.fields) world.fields xs) (sym c.items-3.ensures) stands.kept in
    let two = c.check_averages.ensures local.frame (length comp.fields) world.fields accums averages in
    two ∙ ap (λ (s : Phase). least_fault (noted_fault c.check_marks.new.found) (average_faults world.fields s)) same
    ∙ ap (λ found. least_fault found (average_faults world.fields stage)) one
    ∙ sym (least_fault-append (noted_fault c.args.found.now) firsts (average_faults world.fields stage))

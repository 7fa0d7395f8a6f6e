use Rattle.std.proofs.Common.{◌≡◌, ◌∙◌, ◌<◌, ◌+◌, List, Some, ap, arith, get_or, length, refl, subst, sym}
use Rattle.std.proofs.lemmas.Option.{slice_get_read}
use Rattle.std.specs.List.{slice_get}
use Rattle.cpl_comp.specs.declared.component.Phase.{Phase}
use Rattle.cpl_marks.specs.declared.plan.StampPlan.{StampPlan}
use Rattle.cpl_phase.specs.Locals.{ArePlans}
use Rattle.cpl_phase.specs.Opened.{ArePlansTo}
use Rattle.cpl_phase.proofs.OpenFacts.{plans-all, plans-more}
use Rattle.cpl_phase.proofs.opening.plans_of.Goals as goal

pub loop-p-preserved : goal.loop-p-preserved
loop-p-preserved c =
    let comp = c.args.comp.now in
    let connected = c.args.connected.now in
    let p = c.loop-p.p in
    let phase = c.index-phases-p.result in
    let same = c.items-phases.ensures in
    let inside : p < length comp.phases = subst (λ (xs : List Phase). p < length xs) same c.loop-p-test.true in
    let is : phase ≡ get_or comp.phases p phase = c.index-phases-p.is ∙ ap (λ (xs : List Phase). get_or xs p phase) same in
    let at : slice_get comp.phases p ≡ Some phase = slice_get_read comp.phases (length comp.phases) p phase refl inside is in
    let P : List StampPlan → Type 0 = ArePlansTo comp connected (p + 1) in
    subst P (sym c.in_ok-push.ensures.items)
    (plans-more comp connected p c.loop-p.plans.items phase c.in_ok-plan.plan at
    c.in_ok-plan.ensures.plan c.in_ok-plan.ensures.within c.loop-p.invariant)

pub returns : goal.returns
returns c =
    let comp = c.args.comp.now in
    let connected = c.args.connected.now in
    let p = c.loop-p.p in
    let long = ap (λ (xs : List Phase). length xs) c.items-phases.ensures in
    let all : p ≡ length comp.phases = omega (arith, long, c.loop-p-test.false, c.loop-p.auto.p-end) in
    let P : List StampPlan → Type 0 = ArePlans comp connected in
    subst P (sym c.of.ensures) (plans-all comp connected p c.loop-p.plans.items all c.loop-p.invariant)

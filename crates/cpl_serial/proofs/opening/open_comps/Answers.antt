use Rattle.std.proofs.Common.{◌≡◌, ◌+◌, List, ap, arith, length, subst, sym}
use Rattle.std.specs.List.{All}
use Rattle.cpl_comp.specs.declared.component.Comp.{Comp}
use Rattle.cpl_phase.specs.Locals.{IsAged}
use Rattle.cpl_phase.specs.declared.local.LocalComp.{LocalComp}
use Rattle.cpl_script.specs.SerialRun.{first_world}
use Rattle.cpl_serial.proofs.OpenedFacts.{opened-more, opened-start, opened-whole, opened-young}
use Rattle.cpl_serial.specs.Engines.{AreWhole, StandForWorld}
use Rattle.cpl_serial.specs.Opened.{AreOpenedTo}
use Rattle.cpl_serial.proofs.opening.open_comps.Goals as goal

pub loop-c-preserved : goal.loop-c-preserved
loop-c-preserved c =
    let coupling = c.args.system.now in
    let k = c.loop-c.c in
    let is = c.in_ok-local.ensures in
    subst (AreOpenedTo (k + 1) coupling) (sym c.in_ok-push.ensures.items)
    (opened-more coupling k c.loop-c.locals.items c.in_ok-local.local
    (λ comp there. record { whole = is.whole comp there; start = is.start comp there; young = is.young }) c.loop-c.invariant)

pub returns-clause-whole : goal.returns-clause-whole
returns-clause-whole c =
    let coupling = c.args.system.now in
    let long = ap (λ (xs : List Comp). length xs) c.comps-c-end.ensures in
    let all : c.loop-c.c ≡ length coupling.comps = omega (arith, long, c.loop-c-test.false, c.loop-c.auto.c-end) in
    subst (AreWhole coupling) (sym c.of.ensures) (opened-whole coupling c.loop-c.c c.loop-c.locals.items all c.loop-c.invariant)

pub returns-clause-start : goal.returns-clause-start
returns-clause-start c =
    let coupling = c.args.system.now in
    let long = ap (λ (xs : List Comp). length xs) c.comps-c-end.ensures in
    let all : c.loop-c.c ≡ length coupling.comps = omega (arith, long, c.loop-c-test.false, c.loop-c.auto.c-end) in
    subst (StandForWorld coupling (first_world coupling)) (sym c.of.ensures) (opened-start coupling c.loop-c.c c.loop-c.locals.items all c.loop-c.invariant c.facts.ensures)

pub returns-clause-young : goal.returns-clause-young
returns-clause-young c =
    let coupling = c.args.system.now in
    let long = ap (λ (xs : List Comp). length xs) c.comps-c-end.ensures in
    let all : c.loop-c.c ≡ length coupling.comps = omega (arith, long, c.loop-c-test.false, c.loop-c.auto.c-end) in
    let P : List LocalComp → Type 0 = All (IsAged 0) in
    subst P (sym c.of.ensures) (opened-young coupling c.loop-c.c c.loop-c.locals.items all c.loop-c.invariant)

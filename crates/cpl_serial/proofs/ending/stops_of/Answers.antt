use Rattle.std.proofs.Common.{◌≡◌, List, Some, length, subst, sym}
use Rattle.std.specs.List.{slice_get}
use Rattle.cpl_phase.specs.declared.local.LocalComp.{LocalComp}
use Rattle.cpl_serial.proofs.EndingFacts.{stops-more}
use Rattle.cpl_serial.proofs.ending.stops_of.Goals as goal

pub loop-c-preserved : goal.loop-c-preserved
loop-c-preserved c = λ world count here others.
    let slots = c.items-slots.result.now in
    let same = c.items-slots.ensures in
    stops-more slots world c.args.component c.args.runs c.loop-c.c c.runs_ended-ended.result c.loop-c.stops.items c.push.new.self.items c.comp_stop.result
    (subst (λ (xs : List LocalComp). length world ≡ length xs) (sym same) count) here
    (λ j local off there. others j local off (subst (λ (xs : List LocalComp). slice_get xs j ≡ Some local) same there))
    c.loop-c-test.true c.runs_ended-ended.ensures.here c.runs_ended-ended.ensures.other c.comp_stop.ensures c.in_ok-push.ensures.items
    (c.loop-c.invariant world count here others)

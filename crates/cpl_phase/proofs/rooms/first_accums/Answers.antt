use Rattle.cpl_phase.proofs.OpenFacts.{accums-more}
use Rattle.cpl_phase.proofs.rooms.first_accums.Goals as goal

pub loop-k-preserved : goal.loop-k-preserved
loop-k-preserved c =
    accums-more c.args.comp.now c.args.cells c.loop-k.k c.sums_held-sums.result c.loop-k.accums.items c.push.new.self.items c.in_ok-new.field-0
    c.in_ok-push.ensures.items c.in_ok-new.ensures.value c.sums_held-sums.ensures c.loop-k.invariant

use Rattle.cpl_phase.proofs.ShownFacts.{shown-place}
use Rattle.cpl_phase.proofs.showing.show_places.Goals as goal

pub loop-j-preserved : goal.loop-j-preserved
loop-j-preserved c =
    shown-place c.args.frame.now c.args.sites.now c.args.fields.now c.requires.sites c.args.places.now c.loop-j.j 0 c.args.shown.now c.loop-j.shown
    c.show.new.shown
    c.loop-j-test.true c.requires.places c.loop-j.invariant c.show.ensures

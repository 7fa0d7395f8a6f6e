use Rattle.cpl_comp.specs.declared.component.SetRow.{SetRow}
use Rattle.cpl_phase.proofs.ShownFacts.{shown-row}
use Rattle.cpl_phase.proofs.showing.show_sets.Goals as goal

pub loop-j-preserved : goal.loop-j-preserved
loop-j-preserved c =
    shown-row (λ (row : SetRow). row.field) c.args.frame.now c.args.sites.now c.args.fields.now c.requires.sites c.args.rows.now c.loop-j.j
    c.index-rows-j.result c.args.shown.now c.loop-j.shown c.show.new.shown
    c.loop-j-test.true c.requires.places c.loop-j.invariant c.show.ensures

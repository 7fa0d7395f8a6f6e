use Rattle.std.proofs.Common.{arith}
use Rattle.std.specs.List.{flat_map}
use Rattle.cpl_grid.specs.Blocks.{numbers_below}
use Rattle.cpl_grid.specs.Parts.{part_row}
use Rattle.cpl_phase.proofs.SitesFacts.{rows-all, rows-more}
use Rattle.cpl_phase.proofs.sites.sites_of.Goals as goal

pub loop-b-preserved : goal.loop-b-preserved
loop-b-preserved c =
    let frame = c.args.frame.now in
    rows-more frame c.loop-b.b c.note_row.new.sites
    (c.in_ok-note_row.ensures (flat_map (part_row frame.grid frame.part) (numbers_below c.loop-b.b)) c.loop-b.invariant)

pub returns : goal.returns
returns c = rows-all c.args.frame.now c.loop-b.b c.loop-b.sites (omega (arith, c.loop-b-test.false, c.loop-b.auto.b-end)) c.loop-b.invariant

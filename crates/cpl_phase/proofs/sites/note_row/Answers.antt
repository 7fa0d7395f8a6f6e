use Rattle.std.proofs.Common.{◌++◌, subst, List, ℕ, sym}
use Rattle.std.specs.List.{range_with_len}
use Rattle.cpl_grid.specs.Parts.{part_cell}
use Rattle.cpl_phase.specs.Sites.{AreSitesOf}
use Rattle.cpl_phase.proofs.SitesFacts.{append-none, run-more}
use Rattle.cpl_phase.proofs.sites.note_row.Goals as goal

pub loop-a-init : goal.loop-a-init
loop-a-init c = λ cells are.
    let P : List ℕ → Type 0 = λ xs. AreSitesOf c.args.frame.now xs c.args.sites.now in
    subst P (sym (append-none cells)) are

pub loop-a-preserved : goal.loop-a-preserved
loop-a-preserved c = λ cells are.
    let frame = c.args.frame.now in
    run-more frame cells c.loop-a.a c.args.b c.note_site.new.sites
    (c.in_ok-note_site.ensures (cells ++ range_with_len (part_cell frame.grid frame.part 0 c.args.b) c.loop-a.a) (c.loop-a.invariant cells are))

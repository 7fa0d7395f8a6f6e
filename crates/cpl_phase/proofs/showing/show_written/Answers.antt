use Rattle.std.proofs.Common.{subst}
use Rattle.std.specs.Prelude.{◌++◌, List, ℕ, length, map}
use Rattle.cpl_comp.specs.declared.component.MergeRow.{MergeRow}
use Rattle.cpl_comp.specs.declared.component.SetRow.{SetRow}
use Rattle.cpl_phase.proofs.ShownFacts.{shown-both}
use Rattle.cpl_phase.specs.Shown.{AreShownFor}
use Rattle.cpl_phase.proofs.showing.show_written.Goals as goal

pub returns : goal.returns
returns c =
    let frame = c.args.frame.now in
    let cells = length c.args.sites.now.homes.items in
    let fields = c.args.fields.now in
    let phase = c.args.phase.now in
    let old = c.args.shown.now in
    let sets = map (λ (row : SetRow). row.field) phase.sets in
    let merges = map (λ (row : MergeRow). row.field) phase.merges in
    let one = subst (λ (rows : List SetRow). AreShownFor frame cells (map (λ (row : SetRow). row.field) rows) fields old c.show_sets.new.shown)
    c.items.ensures c.show_sets.ensures in
    let two = subst (λ (rows : List MergeRow).
    AreShownFor frame cells (map (λ (row : MergeRow). row.field) rows) fields c.show_sets.new.shown c.show_merges.new.shown)
    c.items-2.ensures c.show_merges.ensures in
    let three = subst (λ (ks : List ℕ). AreShownFor frame cells ks fields c.show_merges.new.shown c.show_places.new.shown) c.items-3.ensures
    c.show_places.ensures in
    shown-both frame cells fields (sets ++ merges) phase.averages old c.show_merges.new.shown c.show_places.new.shown
    (shown-both frame cells fields sets merges old c.show_sets.new.shown c.show_merges.new.shown one two) three

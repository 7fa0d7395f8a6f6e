use Rattle.std.proofs.Common.{◌≡◌, ◌∙◌, ◌==◌, ◌||◌, ap}
use Rattle.std.specs.List.{list_any}
use Rattle.cpl_comp.specs.declared.component.MergeRow.{MergeRow}
use Rattle.cpl_comp.specs.declared.component.SetRow.{SetRow}
use Rattle.cpl_marks.proofs.ReadFacts.{is_written-rows}
use Rattle.cpl_marks.proofs.looking.is_written.Goals as goal

pub returns : goal.returns
returns c =
    let k = c.args.field in
    let sets : c.sets_field-by_sets.result ≡ list_any (λ (row : SetRow). row.field == k) c.args.phase.now.sets =
    c.sets_field-by_sets.ensures ∙ ap (list_any (λ (row : SetRow). row.field == k)) c.items.ensures in
    let merges : c.merges_field-by_merges.result ≡ list_any (λ (row : MergeRow). row.field == k) c.args.phase.now.merges =
    c.merges_field-by_merges.ensures ∙ ap (list_any (λ (row : MergeRow). row.field == k)) c.items-2.ensures in
    let averages : c.has_field-by_averages.result ≡ list_any (λ other. other == k) c.args.phase.now.averages =
    c.has_field-by_averages.ensures ∙ ap (list_any (λ other. other == k)) c.items-3.ensures in
    (λ i. (sets i || merges i) || averages i) ∙ is_written-rows c.args.phase.now k

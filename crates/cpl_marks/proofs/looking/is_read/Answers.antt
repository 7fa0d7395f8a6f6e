use Rattle.std.proofs.Common.{◌≡◌, ◌∙◌, ◌==◌, ◌||◌, Bool, ap}
use Rattle.std.specs.List.{list_any}
use Rattle.cpl_comp.specs.Halos.{has_read, is_field_at}
use Rattle.cpl_comp.specs.declared.component.MergeRow.{MergeRow}
use Rattle.cpl_comp.specs.declared.component.SetRow.{SetRow}
use Rattle.cpl_marks.proofs.ReadFacts.{is_read-rows}
use Rattle.cpl_marks.proofs.looking.is_read.Goals as goal

pub returns : goal.returns
returns c =
    let k = c.args.field in
    let by_rule : SetRow → Bool = λ row. has_read (λ read. is_field_at k read.name) row.rule in
    let by_product : MergeRow → Bool = λ row. list_any (λ term. term.0 == k || term.1 == k) row.terms in
    let sets : c.read_by_rows-by_sets.result ≡ list_any by_rule c.args.phase.now.sets = c.read_by_rows-by_sets.ensures ∙ ap (list_any by_rule) c.items.ensures in
    let adds : c.read_by_rows-by_adds.result ≡ list_any by_rule c.args.phase.now.adds = c.read_by_rows-by_adds.ensures ∙ ap (list_any by_rule) c.items-2.ensures in
    let merges : c.read_by_merges-by_merges.result ≡ list_any by_product c.args.phase.now.merges =
    c.read_by_merges-by_merges.ensures ∙ ap (list_any by_product) c.items-3.ensures in
    (λ i. (sets i || adds i) || merges i) ∙ is_read-rows c.args.phase.now k

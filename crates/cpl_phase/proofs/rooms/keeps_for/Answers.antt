use Rattle.std.proofs.Common.{◌≡◌, ◌∙◌, ◌==◌, ◌||◌, List, ℕ, ap}
use Rattle.std.specs.List.{list_any}
use Rattle.cpl_comp.specs.Turns.{is_among}
use Rattle.cpl_comp.specs.declared.component.SetRow.{SetRow}
use Rattle.cpl_phase.proofs.OpenFacts.{keeps-rows}
use Rattle.cpl_phase.proofs.rooms.keeps_for.Goals as goal

pub returns : goal.returns
returns c =
    let k = c.args.field in
    let adds : c.adds_field-by_adds.result ≡ list_any (λ row. row.field == k) c.args.phase.now.adds =
    c.adds_field-by_adds.ensures ∙ ap (list_any (λ (row : SetRow). row.field == k)) c.items.ensures in
    let averages : c.has_field-by_averages.result ≡ is_among c.args.phase.now.averages k =
    c.has_field-by_averages.ensures ∙ ap (λ (numbers : List ℕ). is_among numbers k) c.items-2.ensures in
    (λ i. adds i || averages i) ∙ keeps-rows c.args.phase.now k

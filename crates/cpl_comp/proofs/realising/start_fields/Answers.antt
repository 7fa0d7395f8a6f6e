use Rattle.std.proofs.Common.{◌≡◌, ◌+◌, List, [], length, ◌∙◌, zero-add}
use Rattle.cpl_comp.specs.Realised.{start_scope, started_with}
use Rattle.cpl_comp.specs.declared.component.Field.{Field}
use Rattle.cpl_comp.proofs.ResultFacts.{ok-fact}
use Rattle.cpl_comp.proofs.StartFacts.{started_with-length}
use Rattle.cpl_comp.proofs.realising.start_fields.Goals as goal

pub returns-clause-count : goal.returns-clause-count
returns-clause-count c =
    let rows = c.args.rows in
    let scope = start_scope rows c.args.alarms.now c.args.signs.now in
    let is = rw (c.as_slice.ensures.value, c.in_ok-names.ensures, c.items.ensures) at c.in_ok-fields.ensures.value in
    let same = ok-fact (λ (fields : List Field). length fields ≡ length {A = Field} [] + length rows) (started_with scope [] rows) c.in_ok-fields.fields (started_with-length scope [] rows) is in
    same ∙ zero-add (length rows)

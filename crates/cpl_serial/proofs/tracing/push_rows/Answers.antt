use Rattle.std.proofs.Common.{◌<◌, ◌∙◌, length, subst, sym}
use Rattle.std.specs.List.{All}
use Rattle.cpl_comp.specs.declared.component.Role.TheVariants.{Export}
use Rattle.cpl_serial.proofs.EndingFacts.{places-below}
use Rattle.cpl_serial.proofs.tracing.push_rows.Goals as goal

pub trace_row-row-requires-clause-field : goal.trace_row-row-requires-clause-field
trace_row-row-requires-clause-field c =
    let comp = c.args.comp.now in
    let same = c.items-exports.ensures ∙ c.requires.local.exports in
    subst (All (λ k. k < length comp.fields)) (sym same) (places-below Export comp) c.loop-j.j 0 c.loop-j-test.true

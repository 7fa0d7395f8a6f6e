use Rattle.std.proofs.Common.{min, ap, sym, ◌∙◌}
use Rattle.cpl_sequence.specs.Marks.{greatest_count}
use Rattle.cpl_sequence.specs.Operations.{operations_of}
use Rattle.cpl_sequence.specs.RunEnds.{end_total}
use Rattle.cpl_script.specs.TraceLengths.{export_counts}
use Rattle.cpl_script.proofs.TraceFacts.{trace_length-sequence}
use Rattle.cpl_script.proofs.tracing.trace_rows.Goals as goal

pub returns : goal.returns
returns c =
    let counts = c.as_slice.ensures.value ∙ c.in_ok-counts.ensures ∙ ap export_counts c.comps.ensures in
    c.run_total.ensures
    ∙ (λ i. min (end_total (counts i) (operations_of (c.seq.ensures i))) greatest_count)
    ∙ ap (λ n. min n greatest_count) (sym (trace_length-sequence c.args.system.now))

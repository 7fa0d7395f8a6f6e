use Rattle.cpl_trace.specs.Lines.{columns_of, head_line, line_of}
use Rattle.cpl_trace.proofs.LineFacts.{text-more}
use Rattle.cpl_trace.proofs.text.trace_text.Goals as goal

pub loop-row-preserved : goal.loop-row-preserved
loop-row-preserved c = record {
  ready = c.in_ok-write_row.ensures.ready;
  text = text-more head_line (λ row. line_of (columns_of c.args.names.now row)) c.args.rows.now c.loop-row.row-index _ _ _ c.loop-row-test.true c.loop-row.invariant.text c.in_ok-write_row.ensures.text;
}

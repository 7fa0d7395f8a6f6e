use Rattle.std.proofs.Common.{◌≡◌, ◌++◌, take}
use Rattle.std.specs.List.{flat_map}
use Rattle.cpl_trace.specs.Lines.{columns_of, head_line, line_of}
use Rattle.cpl_trace.specs.Writers.{IsReady, text_of}
use Rattle.cpl_trace.proofs.text.trace_text.Given as goal

-- the lines so far
abbrev pub invariant-loop-row : goal.invariant-loop-row
invariant-loop-row l = record {
  ready : IsReady l.writer;
  text : text_of l.writer ≡ head_line ++ flat_map (λ row. line_of (columns_of l.names row)) (take l.row-index l.rows);
}

use Rattle.std.proofs.Common.{◌++◌, ap, ◌∙◌}
use Rattle.cpl_trace.specs.Lines.{line_of, name_at}
use Rattle.cpl_trace.specs.Writers.{text_of}
use Rattle.cpl_trace.proofs.LineFacts.{ArePlain-columns, HasColumns, columns_of-columns}
use Rattle.cpl_trace.proofs.line.write_row.Goals as goal

pub write_columns-requires-clause-plain : goal.write_columns-requires-clause-plain
write_columns-requires-clause-plain c =
    ArePlain-columns c.args.names.now c.args.row.now _ _ _ _ _ _ c.requires.names c.requires.placed (record {
      op_is = c.as_slice.ensures.value ∙ c.in_ok-write.ensures.op;
      component_is = c.name.ensures;
      phase_is = c.name-2.ensures ∙ ap (λ names. name_at names c.args.row.now.phase) c.part.ensures;
      field_is = c.name-3.ensures ∙ ap (λ names. name_at names c.args.row.now.field) c.part-2.ensures;
      stamp_is = c.as_slice-2.ensures.value ∙ c.in_ok-write.ensures.stamp;
      sum_is = c.as_slice-3.ensures.value ∙ c.in_ok-write.ensures.sum;
      few = c.in_ok-write.ensures.few;
      size = c.in_ok-write.ensures.size;
      writes = c.in_ok-write.ensures.writes;
    })

pub returns-clause-text : goal.returns-clause-text
returns-clause-text c =
    let has : HasColumns c.args.names.now c.args.row.now c.as_slice.result.now c.name.result.now c.name-2.result.now c.name-3.result.now c.as_slice-2.result.now c.as_slice-3.result.now = record {
      op_is = c.as_slice.ensures.value ∙ c.in_ok-write.ensures.op;
      component_is = c.name.ensures;
      phase_is = c.name-2.ensures ∙ ap (λ names. name_at names c.args.row.now.phase) c.part.ensures;
      field_is = c.name-3.ensures ∙ ap (λ names. name_at names c.args.row.now.field) c.part-2.ensures;
      stamp_is = c.as_slice-2.ensures.value ∙ c.in_ok-write.ensures.stamp;
      sum_is = c.as_slice-3.ensures.value ∙ c.in_ok-write.ensures.sum;
      few = c.in_ok-write.ensures.few;
      size = c.in_ok-write.ensures.size;
      writes = c.in_ok-write.ensures.writes;
    } in
    c.in_ok-write_columns.ensures.text
    ∙ ap (λ columns. text_of c.args.writer.now ++ line_of columns) (columns_of-columns c.args.names.now c.args.row.now _ _ _ _ _ _ has)

use Rattle.std.proofs.Common.{◌≡◌, ◌++◌, [], ap, ◌∙◌}
use Rattle.cpl_trace.specs.Lines.{head_line}
use Rattle.cpl_trace.specs.Writers.{text_of}
use Rattle.cpl_trace.proofs.text.start.Goals as goal

pub returns-clause-text : goal.returns-clause-text
unfolding head_line
returns-clause-text c =
    let from = c.from_writer-writer.ensures in
    let none : text_of c.from_writer-writer.result ≡ [] = (λ i. (from.wtr i).items ++ from.empty i) ∙ ap (λ bytes. bytes ++ []) c.new-2.ensures.items in
    c.in_ok-write_columns.ensures.text ∙ ap (λ bytes. bytes ++ head_line) none

use Rattle.std.proofs.Common.{◌≡◌, ◌≢◌, ◌++◌, map, List, ℕ, ap, ◌∙◌}
use Rattle.csv.specs.Writing.{row_text, writer_setup}
use Rattle.csv.specs.declared.writer.QuoteStyle.TheVariants.{NonNumeric}
use Rattle.cpl_trace.specs.Writers.{text_of}
use Rattle.cpl_trace.proofs.LineFacts.{row_text-plain}
use Rattle.cpl_trace.proofs.line.write_columns.Goals as goal

pub returns-clause-text : goal.returns-clause-text
returns-clause-text c =
    let ready = c.requires.ready in
    let plain : (writer_setup c.args.writer.now).style ≢ NonNumeric = rw ready.setup (λ e. cc e) in
    let columns : List (List ℕ) = map (λ column. column.now) c.args.columns.now in
    let written : text_of c.write_fields.new.self ≡ text_of c.args.writer.now ++ row_text (writer_setup c.args.writer.now) columns = c.in-Ok.ensures.bytes ready.fields ready.fresh plain in
    written
    ∙ ap (λ setup. text_of c.args.writer.now ++ row_text setup columns) ready.setup
    ∙ ap (λ line. text_of c.args.writer.now ++ line) (row_text-plain columns c.requires.plain)

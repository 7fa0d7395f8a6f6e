-- The code's own: reading that drops a nested loop where it ends, if nothing stands in it.
use Rattle.std.specs.Prelude.{ℕ, List, [], ◌∷◌, ◌++◌, Option, Result, Ok, Err}
use Rattle.cpl_base.specs.ResultChain.{◌>>=◌}
use Rattle.cpl_config.specs.declared.row.Row.{Row}
use Rattle.cpl_sequence.specs.Sequence.{Sequence}
use Rattle.cpl_sequence.specs.declared.element.Element.{Element, roll-Element}
use Rattle.cpl_sequence.specs.declared.element.Element.TheOpen.{Loop}
use Rattle.cpl_sequence.specs.declared.seq_name.SeqName.{SeqName}
use Rattle.cpl_runseq.specs.Reading.{Reading, after_form, empty_reading, loop_duration, with_body}
use Rattle.cpl_runseq.specs.RowForms.{RowForm, close, row_form}
use Rattle.cpl_runseq.specs.RowWords.{row_words}
use Rattle.cpl_runseq.specs.Whole.{whole_of}
use Rattle.cpl_runseq.specs.declared.fault.SeqFault.{SeqFault}
use Rattle.cpl_runseq.specs.declared.fault.SeqFault.TheVariants.{LoopStray}
use Rattle.cpl_runseq.specs.declared.read_loop.ReadLoop.{ReadLoop}

-- a body with a nested loop more, if something stands in it
abbrev pub join_if_any : List Element → ℕ → ℕ → List Element → List Element
join_if_any around step duration [] = around
join_if_any around step duration (e ∷ es) = around ++ roll-Element (Loop step duration (e ∷ es)) ∷ []

-- the innermost of the open loops ends
abbrev pub after_close_filled : Reading → ℕ → List ReadLoop → Result Reading SeqFault
after_close_filled reading line [] = Err (LoopStray line)
after_close_filled reading line (l ∷ []) = Ok (record { links = reading.links; open_loops = []; loops = reading.loops ++ l ∷ [] })
after_close_filled reading line (l ∷ around ∷ more) =
    Ok (record { links = reading.links; open_loops = with_body around (join_if_any around.body l.step (loop_duration l.given around) l.body) ∷ more; loops = reading.loops })

-- a row, by its form
abbrev pub after_form_filled : Option ℕ → List SeqName → Reading → ℕ → RowForm → Result Reading SeqFault
after_form_filled time_step names reading line close = after_close_filled reading line reading.open_loops
after_form_filled time_step names reading line form = after_form time_step names reading line form

-- a row
abbrev pub after_row_filled : Option ℕ → List SeqName → Reading → Row → Result Reading SeqFault
after_row_filled time_step names reading row = after_form_filled time_step names reading row.line (row_form (row_words row.words))

-- all rows, one after another, up to the first fault
abbrev pub after_rows_filled : Option ℕ → List SeqName → Reading → List Row → Result Reading SeqFault
after_rows_filled time_step names reading [] = Ok reading
after_rows_filled time_step names reading (row ∷ rows) = after_row_filled time_step names reading row >>= (λ next. after_rows_filled time_step names next rows)

-- the sequence that rows are, without the nested loops in which nothing stands
abbrev pub filled_sequence_of : List SeqName → Option ℕ → Option ℕ → ℕ → List Row → Result Sequence SeqFault
filled_sequence_of names span time_step room rows = after_rows_filled time_step names empty_reading rows >>= whole_of span room

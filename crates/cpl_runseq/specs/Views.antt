-- The code's own: what its types stand for, and where it cuts a text at an arrow.
use Rattle.std.specs.Prelude.{ℕ, if◌then◌else◌, List, [], ◌∷◌, Option, Some, None, option_map, Result, Ok, Err}
use Rattle.cpl_base.specs.Numerals.{onto_front}
use Rattle.cpl_base.specs.Words.{texts}
use Rattle.cpl_runseq.specs.Options.{OptionTexts, Transfer}
use Rattle.cpl_runseq.specs.Reading.{Reading}
use Rattle.cpl_runseq.specs.RowForms.{RowForm, close, opening, bad_step, link, run, bad_element}
use Rattle.cpl_runseq.specs.RowWords.{is_arrow}
use Rattle.cpl_runseq.specs.declared.fault.SeqFault.{SeqFault}
use Rattle.cpl_runseq.specs.declared.form.Form.{Form}
use Rattle.cpl_runseq.specs.declared.form.Form.TheVariants as forms
use Rattle.cpl_runseq.specs.declared.state.State.{State}
use Rattle.cpl_runseq.specs.declared.transfer.OptionWords.{OptionWords}
use Rattle.cpl_runseq.specs.declared.transfer.TransferWords.{TransferWords}

-- the form of a row
abbrev pub form_view : Form → RowForm
form_view forms.Close = close
form_view (forms.Opening step given) = opening step given
form_view forms.BadStep = bad_step
form_view (forms.Link src dst options) = link src.now dst.now (texts options.now)
form_view (forms.Run component phase) = run component.now (option_map (λ p. p.now) phase)
form_view forms.BadElement = bad_element

-- the values of options
abbrev pub options_view : OptionWords → OptionTexts
options_view words = record {
  method = option_map (λ text. text.now) words.method;
  file = option_map (λ text. text.now) words.file;
  terms = option_map (λ text. text.now) words.terms;
}

-- how values go over
abbrev pub transfer_view : TransferWords → Transfer
transfer_view t = record { method = t.method; file = t.file.now; terms = t.terms }

-- how they go over, or a fault
abbrev pub result_view : Result TransferWords SeqFault → Result Transfer SeqFault
result_view (Ok t) = Ok (transfer_view t)
result_view (Err fault) = Err fault

-- what was read so far
abbrev pub reading_view : State → Reading
reading_view state = record { links = state.links; open_loops = state.open; loops = state.loops.items }

-- the text before the first arrow and the text after it
abbrev pub cut_arrow : List ℕ → Option (List ℕ × List ℕ)
cut_arrow [] = None
cut_arrow (c ∷ []) = None
cut_arrow (c ∷ d ∷ rest) = if is_arrow c d then Some ([], rest) else onto_front c (cut_arrow (d ∷ rest))

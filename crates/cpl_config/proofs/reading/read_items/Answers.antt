use Rattle.std.proofs.Common.{◌≡◌, ◌⊎◌, List, ◌∷◌, None, Err, ℕ, suc, drop, drop-cons, map, option_map, inl, inr, ap, sym, subst, ◌∙◌, arith}
use Rattle.std.proofs.lemmas.Result.{err_from_is_err_and}
use Rattle.cpl_base.specs.Words.{texts}
use Rattle.cpl_text.specs.declared.text_lines.Line.{Line}
use Rattle.cpl_text.specs.Lines.{lines_of}
use Rattle.cpl_text.specs.Spans.{StandsIn, line_in}
use Rattle.cpl_text.proofs.LinesFacts.{IsShortIn, lines_short, lines_stand}
use Rattle.cpl_config.specs.declared.entry.Entry.{Entry}
use Rattle.cpl_config.specs.declared.fault.ItemFault.TheVariants.{Memory}
use Rattle.cpl_config.specs.Items.{WordLine, items_of, word_line}
use Rattle.cpl_config.specs.Steps.{progress_of, table_so_far}
use Rattle.cpl_config.proofs.StepsFacts.{entries_from, entries_from-fault, entries_from-first, map_map}
use Rattle.cpl_config.proofs.reading.read_items.Goals as goal

-- nothing is read yet
pub loop-line-init : goal.loop-line-init
loop-line-init c =
    let bytes = c.args.bytes.now in
    let lines = c.args.lines.now in
    let shown : Line → WordLine = λ line. word_line (line_in bytes line) in
    let all : map shown lines ≡ map word_line (lines_of bytes) = map_map (line_in bytes) word_line lines ∙ ap (map word_line) c.requires.lines.lines_are in
    record {
      read_is = ap (λ (entries : List Entry). entries_from (map shown lines) entries None) c.new-items.ensures ∙ entries_from-first (map shown lines) ∙ ap items_of all;
      joins = tt;
    }

-- the words of the line stand in the text
pub line_texts-requires : goal.line_texts-requires
line_texts-requires c =
    let bytes = c.args.bytes.now in
    let line = c.line-item.result in
    let P : Line → Type 0 = λ line. StandsIn bytes (line_in bytes line) in
    let stand : P line = subst P (sym c.line-item.is) (lines_stand bytes c.args.lines.now c.requires.lines c.loop-line.line-index line c.loop-line-test.true) in
    stand

-- the words of the line are no longer than the text
pub read_line-requires-clause-short : goal.read_line-requires-clause-short
read_line-requires-clause-short c =
    let bytes = c.args.bytes.now in
    let line = c.line-item.result in
    let P : Line → Type 0 = λ line. IsShortIn bytes (line_in bytes line) in
    let short : P line = subst P (sym c.line-item.is) (lines_short bytes c.args.lines.now c.requires.lines c.loop-line.line-index line c.loop-line-test.true) in
    let words : texts c.as_slice.result.now ≡ (word_line (line_in bytes line)).words = ap texts c.as_slice.ensures.value ∙ c.in_ok-words.ensures in
    rw words (omega (arith, short.short, c.requires.size))

-- the fault of the line is that of the file
pub returns-in_err-table : goal.returns-in_err-table
returns-in_err-table c =
    let bytes = c.args.bytes.now in
    let lines = c.args.lines.now in
    let line = c.line-item.result in
    let index = c.loop-line.line-index in
    let shown : Line → WordLine = λ line. word_line (line_in bytes line) in
    let entries = c.loop-line.items in
    let table = option_map table_so_far c.loop-line.table in
    let fault = c.in_err-table.field-0.0 in
    let words : texts c.as_slice.result.now ≡ (shown line).words = ap texts c.as_slice.ensures.value ∙ c.in_ok-words.ensures in
    let left : drop index lines ≡ line ∷ drop (suc index) lines = drop-cons lines index line c.loop-line-test.true ∙ ap (λ (l : Line). l ∷ drop (suc index) lines) (sym c.line-item.is) in
    let all : entries_from (shown line ∷ map shown (drop (suc index) lines)) entries table ≡ items_of (map word_line (lines_of bytes)) =
    ap (λ (ls : List Line). entries_from (map shown ls) entries table) (sym left) ∙ c.loop-line.invariant.read_is in
    let here : (fault ≡ Memory) ⊎ (progress_of entries table (shown line) ≡ Err fault) =
    let P : List (List ℕ) → Type 0 = λ ws. (fault ≡ Memory) ⊎ (progress_of entries table (record { number = line.number; words = ws }) ≡ Err fault) in
    subst P words c.in_err-table.ensures.gives.fault in
    let caused : (fault ≡ Memory) ⊎ (items_of (map word_line (lines_of bytes)) ≡ Err fault) =
    elim here [
      | inl memory ↦ inl memory
      | inr is ↦ inr (sym all ∙ entries_from-fault (shown line) (map shown (drop (suc index) lines)) entries table fault is)
    ] in
    let given = err_from_is_err_and c.from_residual-in_err-table.result c.from_residual-in_err-table.ensures.1 in
    rw (given.1, given.2) (record { value = tt; fault = caused })

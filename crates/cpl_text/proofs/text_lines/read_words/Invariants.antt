use Rattle.std.proofs.Common.{◌≡◌, ◌+◌, map, filter}
use Rattle.cpl_text.specs.Lines.{is_word, parts_from}
use Rattle.cpl_text.specs.Spans.{span_of}
use Rattle.cpl_text.proofs.PartsFacts.{room}
use Rattle.cpl_text.proofs.text_lines.read_words.Given as goal

-- the words among the parts so far, and the place behind them
abbrev pub invariant-loop-piece : goal.invariant-loop-piece
invariant-loop-piece l =
    record {
      words_are : l.words.items ≡ map span_of (filter is_word (parts_from l.start (map (λ piece. piece.now) l.yielded)));
      place_is : l.place ≡ l.start + room (map (λ piece. piece.now) l.yielded);
    }

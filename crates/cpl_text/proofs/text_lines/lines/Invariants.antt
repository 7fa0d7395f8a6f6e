use Rattle.std.proofs.Common.{◌≡◌, length, map, filter, None}
use Rattle.cpl_text.specs.Lines.{first_faulty_number, has_words, lines_from, parts_from}
use Rattle.cpl_text.proofs.LinesFacts.{spans, spans_of}
use Rattle.cpl_text.proofs.PartsFacts.{room}
use Rattle.cpl_text.proofs.text_lines.lines.Given as goal

-- the lines so far that have words, their number, the place behind them, and that they are sound
abbrev pub invariant-loop-line : goal.invariant-loop-line
invariant-loop-line l =
    record {
      lines_are : map spans l.lines.items ≡ map spans_of (filter has_words (lines_from 1 (parts_from 0 (map (λ line. line.now) l.yielded))));
      number_is : l.number ≡ length l.yielded;
      start_is : l.start ≡ room (map (λ line. line.now) l.yielded);
      sound : first_faulty_number 1 (map (λ line. line.now) l.yielded) ≡ None;
    }

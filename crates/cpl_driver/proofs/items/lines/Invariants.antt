use Rattle.std.proofs.Common.{◌≡◌, map, filter}
use Rattle.cpl_base.specs.Words.{is_some_of, words_of}
use Rattle.cpl_driver.specs.Reads.{line_texts}
use Rattle.cpl_driver.proofs.items.lines.Given as goal

-- of the lines so far those that have words, each as its words
abbrev pub invariant-loop-piece : goal.invariant-loop-piece
invariant-loop-piece l = line_texts l.lines.items ≡ filter is_some_of (map words_of (map (λ piece. piece.now) l.yielded))

use Rattle.std.proofs.Common.{◌≡◌, ◌++◌, drop}
use Rattle.cpl_base.specs.Words.{texts}
use Rattle.cpl_runseq.specs.RowWords.{row_words}
use Rattle.cpl_runseq.proofs.words.row_words.Given as goal

-- the words so far and those of what is left are all
abbrev pub invariant-loop-word : goal.invariant-loop-word
invariant-loop-word l = texts l.words.items ++ row_words (drop l.word-index l.row.words) ≡ row_words l.row.words

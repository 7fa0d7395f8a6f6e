use Rattle.std.proofs.Common.{◌≡◌, [], ◌++◌, length}
use Rattle.cpl_base.specs.Words.{texts}
use Rattle.cpl_runseq.specs.RowWords.{arrow_words}
use Rattle.cpl_runseq.proofs.words.push_words.Given as goal

-- the words so far and those of the rest are all
abbrev pub invariant-loop-before : goal.invariant-loop-before
invariant-loop-before l = texts l.words.items ++ arrow_words [] l.rest ≡ texts l.initial.words.items ++ arrow_words [] l.text

abbrev pub decreases-loop-before : goal.decreases-loop-before
decreases-loop-before l = length l.rest

use Rattle.cpl_smm.proofs.NumberFacts.{IsNumberOf}
use Rattle.cpl_smm.proofs.numbers.number_word.Given as goal

-- the digits so far
abbrev pub invariant-loop-byte : goal.invariant-loop-byte
invariant-loop-byte l = IsNumberOf l.word l.byte-index l.number

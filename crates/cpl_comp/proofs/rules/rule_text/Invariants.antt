use Rattle.std.proofs.Common.{◌≡◌, take}
use Rattle.cpl_base.specs.Words.{texts}
use Rattle.cpl_comp.proofs.rules.rule_text.Given as goal

-- the words so far
abbrev pub invariant-loop-word : goal.invariant-loop-word
invariant-loop-word l = texts l.lent.items ≡ take l.word-index l.words

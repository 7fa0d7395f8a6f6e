use Rattle.std.proofs.Common.{◌≡◌, take}
use Rattle.cpl_base.specs.Words.{texts}
use Rattle.cpl_config.specs.Words.{values_of}
use Rattle.cpl_config.proofs.words.row.Given as goal

-- the first word and those so far
abbrev pub invariant-loop-word : goal.invariant-loop-word
invariant-loop-word l = l.words.items ≡ values_of l.first (texts (take l.word-index l.more))

use Rattle.std.proofs.Common.{◌≡◌, take}
use Rattle.std.specs.List.{join_with_byte}
use Rattle.cpl_report.specs.Refusals.{refusal_words}
use Rattle.cpl_report.proofs.refusal.refusal_text.Given as goal

-- the words so far are joined
abbrev pub invariant-loop-word : goal.invariant-loop-word
invariant-loop-word l = l.text.items ≡ join_with_byte 32 (refusal_words l.refusal.number (take l.word-index l.words))

use Rattle.std.proofs.Common.{◌≡◌, map, take}
use Rattle.cpl_text.specs.Spans.{part_in}
use Rattle.cpl_base.specs.Words.{texts}
use Rattle.cpl_config.proofs.reading.line_texts.Given as goal

-- the texts of the words so far
abbrev pub invariant-loop-word : goal.invariant-loop-word
invariant-loop-word l = texts l.words.items ≡ map (λ part. part.text) (map (part_in l.bytes) (take l.word-index l.line.words.items))

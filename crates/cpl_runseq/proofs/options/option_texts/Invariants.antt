use Rattle.std.proofs.Common.{◌≡◌, drop}
use Rattle.std.specs.Prelude.{fold}
use Rattle.cpl_runseq.specs.Options.{with_word}
use Rattle.cpl_runseq.specs.Views.{options_view}
use Rattle.cpl_base.specs.Words.{texts}
use Rattle.cpl_runseq.proofs.options.option_texts.Given as goal

-- the words that are left, behind the options so far, are the whole
abbrev pub invariant-loop-word : goal.invariant-loop-word
invariant-loop-word l = fold with_word (options_view l.options) (texts (drop l.word-index l.words)) ≡ fold with_word (options_view l.initial.options) (texts l.words)

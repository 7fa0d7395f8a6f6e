use Rattle.std.proofs.Common.{◌≡◌, drop}
use Rattle.std.specs.List.{list_all}
use Rattle.cpl_runseq.specs.Options.{begins_with_colon}
use Rattle.cpl_base.specs.Words.{texts}
use Rattle.cpl_runseq.proofs.options.all_begin_with_colon.Given as goal

-- whether all begin so rests on the words that are left
abbrev pub invariant-loop-word : goal.invariant-loop-word
invariant-loop-word l = list_all begins_with_colon (texts (drop l.word-index l.words)) ≡ list_all begins_with_colon (texts l.words)

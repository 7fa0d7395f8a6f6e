use Rattle.std.proofs.Common.{◌≡◌, map}
use Rattle.std.specs.Prelude.{fold}
use Rattle.cpl_base.specs.Numerals.{cut_at}
use Rattle.cpl_runseq.specs.Options.{with_halves}
use Rattle.cpl_runseq.specs.Views.{options_view}
use Rattle.cpl_runseq.proofs.options.with_word.Given as goal

-- the options of the pieces so far
abbrev pub invariant-loop-piece : goal.invariant-loop-piece
invariant-loop-piece l = options_view l.options ≡ fold (λ texts piece. with_halves texts (cut_at 61 piece)) (options_view l.initial.options) (map (λ piece. piece.now) l.yielded)

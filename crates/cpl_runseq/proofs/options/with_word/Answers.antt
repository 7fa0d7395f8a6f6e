use Rattle.std.proofs.Common.{rules, tests, ap, ◌∙◌, ◌==◌}
use Rattle.std.specs.Prelude.{fold}
use Rattle.std.proofs.lemmas.Iterator.Splits.{YieldsList-from_slice_split}
use Rattle.std.proofs.lemmas.Iterator.Consumers.{YieldsList-end}
use Rattle.cpl_base.specs.Numerals.{cut_at}
use Rattle.cpl_runseq.specs.Options.{with_halves}
use Rattle.cpl_runseq.specs.Views.{options_view}
use Rattle.cpl_runseq.proofs.options.with_word.Goals as goal

pub returns : goal.returns
returns c =
    let pieces = YieldsList-end (YieldsList-from_slice_split _ (λ b. b == 58) c.args.word.now (cc) (cc) (cc) (λ x b q k. search (rules, tests))) c.loop-piece.yielded _ c.loop-piece.yielded_by _ _ c.in-None.is c.next.ensures.steps in
    c.loop-piece.invariant ∙ ap (fold (λ texts piece. with_halves texts (cut_at 61 piece)) (options_view c.args.so_far)) pieces.0

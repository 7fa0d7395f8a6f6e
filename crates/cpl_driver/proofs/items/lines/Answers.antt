use Rattle.std.proofs.Common.{rules, tests, ap, ◌∙◌, filter, map, eqb, List, ℕ}
use Rattle.std.proofs.lemmas.Iterator.Splits.{YieldsList-from_slice_split}
use Rattle.std.proofs.lemmas.Iterator.Consumers.{YieldsList-end}
use Rattle.cpl_base.specs.Words.{is_some_of, words_of}
use Rattle.cpl_driver.specs.Files.{lines_of}
use Rattle.cpl_driver.proofs.items.lines.Goals as goal

pub returns : goal.returns
unfolding lines_of
returns c =
    let pieces = YieldsList-from_slice_split _ (λ byte. eqb byte 10) c.args.bytes.now (cc) (cc) (cc) (λ x b q k. search (rules, tests)) in
    c.loop-piece.invariant
    ∙ ap (λ (pieces : List (List ℕ)). filter is_some_of (map words_of pieces)) (YieldsList-end pieces c.loop-piece.yielded _ c.loop-piece.yielded_by _ _ c.in-None.is c.next.ensures.steps).0

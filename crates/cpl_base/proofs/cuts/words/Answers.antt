use Rattle.std.proofs.Common.{rules, tests, ap, ◌∙◌, filter}
use Rattle.std.proofs.lemmas.Iterator.Splits.{YieldsList-from_slice_split}
use Rattle.std.proofs.lemmas.Iterator.Consumers.{YieldsList-end}
use Rattle.cpl_base.specs.Words.{is_blank, is_some_of}
use Rattle.cpl_base.proofs.cuts.words.Goals as goal

pub returns : goal.returns
returns c =
    c.loop-piece.invariant
    ∙ ap (filter is_some_of) (YieldsList-end (YieldsList-from_slice_split _ is_blank c.args.text.now (cc) (cc) (cc) (λ x b q k. search (rules, tests))) c.loop-piece.yielded _ c.loop-piece.yielded_by _ _ c.in-None.is c.next.ensures.steps).0

use Rattle.std.proofs.Common.{rules, tests}
use Rattle.std.specs.Str.{bytes_eq}
use Rattle.std.proofs.lemmas.Iterator.{YieldsList-from_slice}
use Rattle.std.proofs.lemmas.Iterator.Search.{position_from_yields_List}
use Rattle.cpl_comp.proofs.rules.entry_place.Goals as goal

pub returns-clause-place : goal.returns-clause-place
returns-clause-place c =
    position_from_yields_List (λ sign. bytes_eq sign.label c.args.label.now) _ _ _ c.position.ensures.ran (YieldsList-from_slice c.args.signs.now (cc)) (λ x b q k. search (rules, tests))

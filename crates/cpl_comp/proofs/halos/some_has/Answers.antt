use Rattle.std.proofs.Common.{◌∙◌, rules, tests}
use Rattle.std.specs.Borrow.{Bor}
use Rattle.std.proofs.lemmas.Iterator.{YieldsList-from_slice}
use Rattle.std.proofs.lemmas.Iterator.Search.{any_from_yields_List}
use Rattle.cpl_comp.specs.Halos.{has_read, is_wanted}
use Rattle.cpl_comp.specs.declared.component.Rule.{Rule}
use Rattle.cpl_comp.proofs.NameTableFacts.{list_any-map}
use Rattle.cpl_comp.proofs.halos.some_has.Goals as goal

pub returns : goal.returns
returns c =
    let test = has_read (is_wanted c.args.kind) in
    any_from_yields_List (λ (rule : Bor Rule). test rule.now) _ _ _ c.any.ensures.ran (YieldsList-from_slice c.args.rules.now cc) (λ x b q k. search (rules, tests))
    ∙ list_any-map test (λ (rule : Bor Rule). rule.now) c.args.rules.now

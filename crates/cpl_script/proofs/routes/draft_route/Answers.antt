use Rattle.std.proofs.Common.{◌∙◌, List, ap, length, sym}
use Rattle.std.proofs.lemmas.Bool.{eqb-true}
use Rattle.cpl_match.specs.declared.port.Pair.{Pair}
use Rattle.cpl_script.specs.Couplings.{layout_at}
use Rattle.cpl_script.proofs.NeedFacts.{route-none}
use Rattle.cpl_script.proofs.routes.draft_route.Goals as goal

pub returns-then-is_empty : goal.returns-then-is_empty
returns-then-is_empty c =
    let draft = c.args.draft.now in
    let none = eqb-true (length c.items.result.now) 0 (sym c.is_empty.ensures ∙ c.if-is_empty.true) in
    let empty = ap (λ (pairs : List Pair). length pairs) (sym c.items.ensures) ∙ none in
    route-none c.decomp_at-src.result.now (layout_at c.args.comps.now draft.line.src) (layout_at c.args.comps.now draft.line.dst) draft.weights draft.pairs c.pick.result empty c.pick.ensures

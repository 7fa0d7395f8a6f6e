use Rattle.std.proofs.Common.{◌≡◌, ap, ◌∙◌, rules}
use Rattle.std.proofs.lemmas.List.Sorted.{IsNonDecreasingBy-from_sort}
use Rattle.cpl_route.specs.Picks.{is_listed}
use Rattle.cpl_route.proofs.PickFacts.{sorted-ascending, sorted-listed}
use Rattle.cpl_route.proofs.sorted.ascending_copy.Goals as goal

pub returns-clause-ascending : goal.returns-clause-ascending
returns-clause-ascending c =
    rw c.of.ensures (sorted-ascending _ (IsNonDecreasingBy-from_sort (λ x. x) _ c.in_ok-sort.ensures.sorted))

pub returns-clause-same : goal.returns-clause-same
returns-clause-same c s =
    let copied : c.in_ok-cells.cells.items ≡ c.args.need.now.cells = search rules in
    ap (λ xs. is_listed xs s) c.of.ensures ∙ sorted-listed c.in_ok-cells.cells.items _ s c.in_ok-sort.ensures.permutation ∙ ap (λ xs. is_listed xs s) copied

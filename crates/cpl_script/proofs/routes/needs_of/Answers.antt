use Rattle.std.proofs.Common.{List, subst, sym, arith}
use Rattle.std.specs.Prelude.{IsTrue}
use Rattle.cpl_route.specs.Routes.{ArePetsDistinct, are_ascending}
use Rattle.cpl_route.specs.declared.need.Need.{Need}
use Rattle.cpl_script.proofs.NeedFacts.{needs-ascend, needs-distinct}
use Rattle.cpl_script.proofs.routes.needs_of.Goals as goal

pub returns-clause-ascending : goal.returns-clause-ascending
returns-clause-ascending c =
    let P : List Need → Type 0 = λ needs. IsTrue (are_ascending needs) in
    subst P (sym c.in_ok-needs.ensures) (needs-ascend c.args.weights.now c.args.dst.now (omega (arith, c.pets.ensures.layout)))

pub returns-clause-distinct : goal.returns-clause-distinct
returns-clause-distinct c =
    let P : List Need → Type 0 = λ needs. ArePetsDistinct needs in
    subst P (sym c.in_ok-needs.ensures) (needs-distinct c.args.weights.now c.args.dst.now)

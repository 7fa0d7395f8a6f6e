use Rattle.std.proofs.Common.{◌≡◌, ℤ, pos, [], List, replicate, rules}
use Rattle.cpl_mediator.proofs.AveragesFacts.{StandsFor-none}
use Rattle.cpl_mediator.specs.Averages.{StandsFor}
use Rattle.cpl_mediator.proofs.accum.Accum.new.Goals as goal

pub returns-clause-stands : goal.returns-clause-stands
returns-clause-stands c =
    let same : c.in_ok-from_elem.field-0.items ≡ replicate c.args.cells (pos 0) = search rules in
    let P : List ℤ → Type 0 = λ sums. StandsFor (record { count = 0; sums = sums }) [] in
    rw same (StandsFor-none c.args.cells)

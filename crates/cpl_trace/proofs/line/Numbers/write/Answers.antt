use Rattle.std.proofs.Common.{ℤ, rules, subst}
use Rattle.std.proofs.lemmas.Int.{to_z-of_z}
use Rattle.std.specs.Int.{w128}
use Rattle.cpl_base.specs.Numerals.{Writes, value_text}
use Rattle.cpl_trace.proofs.line.Numbers.write.Goals as goal
use mir.Val.{SFits}

pub returns-clause-writes : goal.returns-clause-writes
returns-clause-writes c =
    let fits : SFits w128 c.args.row.now.sum = search rules in
    let P : ℤ → Type 0 = λ z. Writes (value_text z) z in
    subst P (to_z-of_z w128 c.args.row.now.sum fits) c.in_ok-write_val.ensures.writes

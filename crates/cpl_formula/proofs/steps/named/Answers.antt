-- A field without brackets is read before the token behind it is looked at.
use Rattle.cpl_formula.proofs.TokenCases.{unbracketed}
use Rattle.cpl_formula.proofs.steps.named.Goals as goal

pub returns-clause-gives : goal.returns-clause-gives
returns-clause-gives c =
    let taken = rw (c.in_ok-operand.ensures.part, c.in_ok-operand.ensures.reads, c.here.ensures) at (c.behind.ensures c.read_part.new.reads.keys) in
    rw (unbracketed c.args.reads.now.keys c.args.frames c.args.level c.args.field c.args.token c.in_default.not-OpenBracket, c.in_ok-operand.ensures.reads, c.here.ensures) taken

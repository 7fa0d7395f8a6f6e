use Rattle.std.proofs.Common.{length}
use Rattle.cpl_sweep.proofs.OperandsFacts.{IsOperand-at, within-at}
use Rattle.cpl_sweep.proofs.operands.operand_of.Goals as goal

pub returns-in-Input : goal.returns-in-Input
returns-in-Input c =
    let inputs = c.args.inputs.now in
    let inside = within-at (length inputs.places.now) c.in-Input.input c.args.tree.now c.in-Input.is c.requires.over in
    IsOperand-at inputs.places.now inputs.fields.now c.in-Input.input inputs.skip c.args.cells _ c.place_operand.result c.args.tree.now c.in-Input.is inside c.place_operand.ensures

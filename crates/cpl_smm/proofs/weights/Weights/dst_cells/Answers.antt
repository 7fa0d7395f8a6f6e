use Rattle.cpl_smm.proofs.KeptFacts.{length-rows}
use Rattle.cpl_smm.proofs.weights.Weights.dst_cells.Goals as goal

pub returns : goal.returns
returns c = length-rows c.self.inside c.args.self.now c.self.view_is

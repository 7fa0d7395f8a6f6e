use Rattle.std.proofs.Common.{arith}
use Rattle.std.proofs.lemmas.Grind.{common_steps}
use Rattle.cpl_phase.proofs.merging.merge_one.Goals as goal

pub loop-k-preserved : goal.loop-k-preserved
loop-k-preserved c = record { factors = grind (arith, common_steps); within = grind (arith, common_steps) }

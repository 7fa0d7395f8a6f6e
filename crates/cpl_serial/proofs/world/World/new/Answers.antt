use Rattle.std.proofs.Common.{subst, sym}
use Rattle.cpl_script.specs.Operations.{ops_of}
use Rattle.cpl_serial.proofs.OutcomeFacts.{world-first}
use Rattle.cpl_serial.specs.Engines.{StandForWorld}
use Rattle.cpl_serial.proofs.world.World.new.Goals as goal

pub returns : goal.returns
returns c = λ entries.
    let coupling = c.args.system.now in
    record {
      made = record { whole = c.in_ok-comps.ensures.whole; room = c.in_ok-buffers.ensures };
      aged = c.in_ok-comps.ensures.young;
      stands = subst (λ w. StandForWorld coupling w c.in_ok-comps.comps) (sym (world-first coupling entries (ops_of coupling))) c.in_ok-comps.ensures.start;
    }

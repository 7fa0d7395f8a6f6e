use Rattle.std.proofs.Common.{subst, sym}
use Rattle.cpl_entry.specs.Books.{entries_of}
use Rattle.cpl_rule.specs.Assigned.{answers_of}
use Rattle.cpl_script.specs.Operations.{ops_of}
use Rattle.cpl_script.specs.SerialRun.{world_before}
use Rattle.cpl_serial.proofs.OutcomeFacts.{world-next}
use Rattle.cpl_serial.specs.Engines.{StandForWorld}
use Rattle.cpl_serial.proofs.world.World.apply.Goals as goal

pub returns : goal.returns
returns g c =
    let coupling = c.args.system.now in
    let entries = answers_of (entries_of c.args.book.now) in
    record {
      made = c.apply_op.ensures.made;
      aged = c.apply_op.ensures.aged c.args.k c.requires.before.aged;
      stands = subst (λ world. StandForWorld coupling world c.apply_op.new.self.comps)
          (sym (world-next coupling entries (ops_of coupling) c.args.k c.op-op.result c.op-op.ensures.value))
          (c.apply_op.ensures.after (world_before coupling entries c.args.k) c.requires.before.stands);
    }

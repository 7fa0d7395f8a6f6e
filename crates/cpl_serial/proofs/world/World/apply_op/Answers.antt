use Rattle.std.proofs.Common.{subst, sym}
use Rattle.cpl_entry.specs.Books.{entries_of}
use Rattle.cpl_rule.specs.Assigned.{answers_of}
use Rattle.cpl_script.specs.SerialRun.{world_after}
use Rattle.cpl_serial.proofs.EngineFacts.{aged-all}
use Rattle.cpl_serial.specs.Engines.{StandForWorld}
use Rattle.cpl_serial.proofs.world.World.apply_op.Goals as goal

pub returns-in-Init-clause-aged : goal.returns-in-Init-clause-aged
returns-in-Init-clause-aged g c = λ done each. aged-all done c.init_at.new.locals (c.init_at.ensures.aged done each)

pub returns-in-Link-clause-aged : goal.returns-in-Link-clause-aged
returns-in-Link-clause-aged g c = λ done each. aged-all done c.link_at.new.locals (c.link_at.ensures.aged done each)

pub returns-in-Link-clause-after : goal.returns-in-Link-clause-after
returns-in-Link-clause-after g c = λ world stand.
    let entries = answers_of (entries_of c.args.book.now) in
    subst (λ op. StandForWorld c.args.system.now (world_after c.args.system.now entries world op) c.link_at.new.locals) (sym c.in-Link.is)
    (c.link_at.ensures.after entries world stand)

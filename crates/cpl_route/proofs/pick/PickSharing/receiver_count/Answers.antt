use Rattle.std.proofs.Common.{sym}
use Rattle.cpl_route.proofs.PickFacts.{pickers-count}
use Rattle.cpl_route.proofs.pick.PickSharing.receiver_count.Goals as goal

pub returns : goal.returns
returns c = sym (pickers-count c.args.self.now.needs.now c.requires.ascending)

use Rattle.cpl_base.proofs.WordsFacts.{rest_behind-stripped}
use Rattle.cpl_base.proofs.cuts.rest_behind.Goals as goal

pub returns : goal.returns
returns c = rest_behind-stripped c.args.beginning.now c.args.text.now c.strip_prefix.result c.strip_prefix.ensures.cases

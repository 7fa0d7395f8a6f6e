use Rattle.std.proofs.Common.{◌∙◌, ◌++◌, List, ap, map}
use Rattle.cpl_sequence.specs.declared.op.Op.{Op}
use Rattle.cpl_script.specs.Drafts.{links_from}
use Rattle.cpl_script.specs.Operations.{needed_links_from}
use Rattle.cpl_script.proofs.RangeFacts.{init_link, needed-more}
use Rattle.cpl_script.proofs.init_ops.push_needed.Goals as goal

pub loop-producer-preserved : goal.loop-producer-preserved
loop-producer-preserved c =
    let needed = needed_links_from c.args.comps.now (links_from c.args.comps.now c.args.drafts.now) c.args.component in
    c.in_ok-push_needed_from.ensures
    ∙ ap (λ (ops : List Op). ops ++ map init_link (needed c.loop-producer.producer)) c.loop-producer.invariant
    ∙ needed-more c.args.ops.now.items needed c.loop-producer.producer

use Rattle.std.proofs.Common.{◌≡◌, ◌++◌, map, true}
use Rattle.std.specs.List.{flat_map, range_with_len}
use Rattle.cpl_sequence.specs.declared.op.Op.TheVariants.{Link as LinkOp}
use Rattle.cpl_script.specs.Drafts.{links_from}
use Rattle.cpl_script.specs.Operations.{needed_links_from}
use Rattle.cpl_script.proofs.init_ops.push_needed.Given as goal

-- the connectors from the producers so far stand behind those before
abbrev pub invariant-loop-producer : goal.invariant-loop-producer
invariant-loop-producer l =
    l.ops.items ≡ l.initial.ops.items ++ map (λ n. LinkOp n true) (flat_map (needed_links_from l.comps (links_from l.comps l.drafts) l.component) (range_with_len 0 l.producer))

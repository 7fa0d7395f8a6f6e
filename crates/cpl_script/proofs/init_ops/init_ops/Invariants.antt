use Rattle.std.proofs.Common.{◌≡◌, take}
use Rattle.std.specs.List.{flat_map}
use Rattle.cpl_script.specs.Drafts.{links_from}
use Rattle.cpl_script.specs.Operations.{comp_init_ops}
use Rattle.cpl_script.proofs.init_ops.init_ops.Given as goal

-- the operations of the components so far
abbrev pub invariant-loop-component : goal.invariant-loop-component
invariant-loop-component l = l.ops.items ≡ flat_map (comp_init_ops l.comps (links_from l.comps l.drafts)) (take l.component-index l.order)

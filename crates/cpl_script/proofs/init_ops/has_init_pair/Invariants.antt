use Rattle.std.proofs.Common.{◌≡◌, false, take}
use Rattle.std.specs.List.{list_any}
use Rattle.cpl_script.specs.Operations.{is_init_pair}
use Rattle.cpl_script.proofs.init_ops.has_init_pair.Given as goal

-- none of the pairs so far does
abbrev pub invariant-loop-pair : goal.invariant-loop-pair
invariant-loop-pair l = list_any (is_init_pair l.comps) (take l.pair-index l.pairs) ≡ false

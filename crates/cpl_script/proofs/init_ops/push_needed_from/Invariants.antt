use Rattle.std.proofs.Common.{◌≡◌, ◌++◌, filter, map, true, false}
use Rattle.std.specs.Prelude.{slice_get}
use Rattle.std.specs.List.{range_with_len}
use Rattle.std.specs.Option.{option_map_or}
use Rattle.cpl_sequence.specs.declared.op.Op.TheVariants.{Link as LinkOp}
use Rattle.cpl_script.specs.Drafts.{links_from}
use Rattle.cpl_script.specs.Operations.{is_needed_link}
use Rattle.cpl_script.proofs.init_ops.push_needed_from.Given as goal

-- those of the connectors so far that are needed stand behind those before
abbrev pub invariant-loop-place : goal.invariant-loop-place
invariant-loop-place l =
    l.ops.items ≡ l.initial.ops.items ++ map (λ n. LinkOp n true) (filter (λ n. option_map_or (is_needed_link l.comps l.component l.producer) (slice_get (links_from l.comps l.drafts) n) false) (range_with_len 0 l.place))

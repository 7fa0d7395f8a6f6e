use Rattle.std.proofs.Common.{◌≡◌, filter, take}
use Rattle.cpl_script.specs.Systems.{is_pair_of}
use Rattle.cpl_script.proofs.draft.pairs_of.Given as goal

-- the line's pairs so far
abbrev pub invariant-loop-pair : goal.invariant-loop-pair
invariant-loop-pair l = l.own.items ≡ filter (is_pair_of l.line) (take l.pair-index l.pairs)

use Rattle.std.proofs.Common.{◌≡◌, map, take}
use Rattle.cpl_block.specs.Frames.{value_at}
use Rattle.cpl_phase.proofs.keeping.gather.Given as goal

-- the cells passed
abbrev pub invariant-loop-k : goal.invariant-loop-k
invariant-loop-k l = take l.k l.cells ≡ map (value_at l.field) (take l.k l.sites.homes.items)

use Rattle.std.proofs.Common.{◌≡◌, filter, take}
use Rattle.std.specs.List.{list_any}
use Rattle.cpl_comp.specs.Halos.{has_read, is_read_at, near_offsets}
use Rattle.cpl_comp.specs.Views.{rules_in}
use Rattle.cpl_comp.proofs.halos.offsets_of.Given as goal

-- the neighbours so far that are read
abbrev pub invariant-loop-place : goal.invariant-loop-place
invariant-loop-place l = l.offsets.items ≡ filter (λ offset. list_any (has_read (is_read_at offset)) (rules_in l.rules)) (take l.place near_offsets)

use Rattle.std.proofs.Common.{◌≡◌, filter}
use Rattle.std.specs.List.{list_any, range_with_len}
use Rattle.cpl_comp.specs.Halos.{has_read, is_read_beside}
use Rattle.cpl_comp.specs.Views.{rules_in}
use Rattle.cpl_comp.proofs.halos.fields_of.Given as goal

-- the fields so far that are read at a neighbour
abbrev pub invariant-loop-place : goal.invariant-loop-place
invariant-loop-place l = l.fields.items ≡ filter (λ field. list_any (has_read (is_read_beside field)) (rules_in l.rules)) (range_with_len 0 l.place)

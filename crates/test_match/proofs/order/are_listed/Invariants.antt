use Rattle.std.proofs.Common.{ℕ, ◌<◌}
use Rattle.std.specs.List.{slice_index_or}
use Rattle.cpl_init.specs.Orders.{IsListed}
use Rattle.cpl_init.specs.declared.needs.Needs.{Needs}
use Rattle.test_match.proofs.order.are_listed.Given as goal

-- the rows so far are listed
abbrev pub invariant-loop-row : goal.invariant-loop-row
invariant-loop-row l = (k : ℕ) (d : Needs) → k < l.row-index → IsListed l.components (slice_index_or l.needs k d)

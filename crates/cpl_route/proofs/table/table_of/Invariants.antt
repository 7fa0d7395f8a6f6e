use Rattle.std.proofs.Common.{[], ◌-◌}
use Rattle.std.specs.List.{flat_map, range_with_len}
use Rattle.cpl_route.specs.Routes.{legs_from}
use Rattle.cpl_route.specs.Tables.{HasLegs}
use Rattle.cpl_route.proofs.table.table_of.Given as goal

abbrev pub invariant-loop-from : goal.invariant-loop-from
invariant-loop-from g l =
    HasLegs [] []
    (flat_map (legs_from (g.S.Sharing.src l.sharing) (g.S.Sharing.is_needed l.sharing) (g.S.Sharing.receivers l.sharing))
    (range_with_len (g.S.Sharing.src l.sharing).first_pet (l.from - (g.S.Sharing.src l.sharing).first_pet)))
    l.spans.items l.cells.items

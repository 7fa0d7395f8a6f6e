use Rattle.std.proofs.Common.{◌≡◌, ◌++◌}
use Rattle.std.specs.List.{All}
use Rattle.std.specs.Vec.Iter.{into_iter_items}
use Rattle.cpl_script.specs.Drafts.{IsDraft, links_from}
use Rattle.cpl_script.proofs.routes.links_of.Given as goal

-- the connectors so far and those of the drafts left are those of all drafts
abbrev pub invariant-loop-draft : goal.invariant-loop-draft
invariant-loop-draft l = record {
  sound : All (IsDraft l.comps) (into_iter_items l.draft-iterator);
  rest : l.links.items ++ links_from l.comps (into_iter_items l.draft-iterator) ≡ links_from l.comps l.fn.drafts.items;
}

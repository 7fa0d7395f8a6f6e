-- The code's own: connectors before their routes are made.
use Rattle.std.specs.Prelude.{ℕ, List, filter, map, Option}
use Rattle.cpl_comp.specs.declared.component.Comp.{Comp}
use Rattle.cpl_match.specs.declared.port.Pair.{Pair}
use Rattle.cpl_sequence.specs.declared.link_line.LinkLine.{LinkLine}
use Rattle.cpl_smm.specs.Rows.{Table}
use Rattle.cpl_script.specs.Couplings.{layout_at}
use Rattle.cpl_script.specs.Sound.{IsConnector}
use Rattle.cpl_script.specs.Systems.{is_pair_of, link_numbers, link_route}
use Rattle.cpl_script.specs.declared.draft.Draft.{Draft}
use Rattle.cpl_script.specs.declared.link.Link.{Link}

-- the draft of a line, with its weights
abbrev pub draft_of : List Pair → LinkLine × Option Table → Draft
draft_of pairs given = record { line = given.0; pairs = filter (is_pair_of given.0) pairs; weights = given.1 }

-- the route of a draft
abbrev pub draft_route : List Comp → Draft → List Rattle.cpl_route.specs.Routes.Leg
draft_route comps draft =
    link_route (layout_at comps draft.line.src) (layout_at comps draft.line.dst) draft.weights draft.pairs

-- the connector of a draft
abbrev pub link_from : List Comp → Draft → Link
link_from comps draft =
    record { line = draft.line; pairs = draft.pairs; route = draft_route comps draft; weights = draft.weights }

-- the connectors of drafts
abbrev pub links_from : List Comp → List Draft → List Link
links_from comps drafts = map (link_from comps) drafts

-- how many numbers the connector of a draft moves
abbrev pub draft_numbers : List Comp → Draft → ℕ
draft_numbers comps draft = link_numbers (link_from comps draft)

-- a draft of a connector of a system
abbrev pub IsDraft : List Comp → Draft → Type 0
IsDraft comps draft = IsConnector comps (link_from comps draft)

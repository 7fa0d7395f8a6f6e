use Rattle.std.proofs.Common.{◌∙◌, ◌++◌, ◌∷◌, [], List, ap, sym}
use Rattle.std.proofs.lemmas.List.{append_assoc}
use Rattle.std.proofs.lemmas.List.Elements.{All-rest}
use Rattle.std.specs.Vec.Iter.{into_iter_items}
use Rattle.cpl_script.specs.Drafts.{IsDraft, links_from}
use Rattle.cpl_script.specs.declared.draft.Draft.{Draft}
use Rattle.cpl_script.specs.declared.link.Link.{Link}
use Rattle.cpl_script.proofs.routes.links_of.Goals as goal

pub loop-draft-preserved : goal.loop-draft-preserved
loop-draft-preserved c =
    let comps = c.args.comps.now in
    let rest = into_iter_items c.next.new.self in
    let before = c.loop-draft.links.items in
    let steps = c.in-Some.ensures.steps.0 in
    record {
      sound = All-rest (IsDraft comps) c.in-Some.draft rest (into_iter_items c.loop-draft.draft-iterator) steps c.loop-draft.invariant.sound;
      rest = ap (λ (links : List Link). links ++ links_from comps rest) c.in_ok-push.ensures.items
          ∙ append_assoc before (c.in_ok-link.link ∷ []) (links_from comps rest)
          ∙ ap (λ (link : Link). before ++ (link ∷ links_from comps rest)) c.in_ok-link.ensures
          ∙ ap (λ (drafts : List Draft). before ++ links_from comps drafts) (sym steps)
          ∙ c.loop-draft.invariant.rest;
    }

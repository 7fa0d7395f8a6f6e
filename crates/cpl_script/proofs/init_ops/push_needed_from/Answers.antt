use Rattle.std.proofs.Common.{ℕ, ◌≡◌, ◌∙◌, ◌++◌, ◌∷◌, [], List, ap, false, sym}
use Rattle.std.specs.Prelude.{slice_get, Some}
use Rattle.std.specs.Option.{option_map, option_map_or}
use Rattle.std.proofs.lemmas.List.{append-nil}
use Rattle.std.proofs.lemmas.Option.{slice_get-get_or, slice_get-map}
use Rattle.cpl_sequence.specs.declared.op.Op.{Op}
use Rattle.cpl_script.specs.Drafts.{link_from, links_from}
use Rattle.cpl_script.specs.Operations.{is_needed_link}
use Rattle.cpl_script.specs.declared.draft.Draft.{Draft}
use Rattle.cpl_script.proofs.RangeFacts.{init_link, needed-next}
use Rattle.cpl_script.proofs.init_ops.push_needed_from.Goals as goal
use Rattle.cpl_script.proofs.init_ops.push_needed_from.Goals.{then-is_needed+in_ok-push, else-is_needed}

pub loop-place-preserved : goal.loop-place-preserved
loop-place-preserved c =
    let comps = c.args.comps.now in
    let drafts = c.args.drafts.now in
    let test = λ (n : ℕ). option_map_or (is_needed_link comps c.args.component c.args.producer) (slice_get (links_from comps drafts) n) false in
    let draft = c.index-drafts-place.result in
    let at : slice_get (links_from comps drafts) c.loop-place.place ≡ Some (link_from comps draft) =
    slice_get-map (link_from comps) drafts c.loop-place.place
    ∙ ap (option_map (link_from comps)) (slice_get-get_or drafts c.loop-place.place draft c.loop-place-test.true)
    ∙ ap (λ (d : Draft). Some (link_from comps d)) (sym c.index-drafts-place.is) in
    let is = c.is_needed.ensures ∙ ap (λ o. option_map_or (is_needed_link comps c.args.component c.args.producer) o false) (sym at) in
    let next = needed-next c.args.ops.now.items test c.loop-place.place c.is_needed.result is in
    elim c.if-is_needed.branch [
      | then-is_needed+in_ok-push w ↦ rw w.ops-is (w.in_ok-push.ensures.items ∙ ap (λ (ops : List Op). ops ++ init_link c.loop-place.place ∷ []) c.loop-place.invariant ∙ (rw w.if-is_needed.true at next))
      | else-is_needed w ↦ rw w.ops-is (c.loop-place.invariant ∙ sym (append-nil _) ∙ (rw w.if-is_needed.false at next))
    ]

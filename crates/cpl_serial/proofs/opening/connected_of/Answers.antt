use Rattle.std.proofs.Common.{◌≡◌, ◌∙◌, ◌<◌, false, List, ap, get_or, length, refl, replicate, subst, sym}
use Rattle.std.proofs.lemmas.Option.{slice_get_read}
use Rattle.std.specs.List.{All}
use Rattle.cpl_comp.specs.declared.component.Comp.{Comp}
use Rattle.cpl_comp.specs.declared.component.Field.{Field}
use Rattle.cpl_match.specs.declared.port.Pair.{Pair}
use Rattle.cpl_script.specs.Sound.{IsConnector}
use Rattle.cpl_script.specs.declared.link.Link.{Link}
use Rattle.cpl_serial.proofs.EngineFacts.{same-member}
use Rattle.cpl_serial.proofs.OpenedFacts.{fed-more, pairs-within, unmarked, unmarked-count}
use Rattle.cpl_serial.specs.Opened.{IsPairWithin}
use Rattle.cpl_serial.proofs.opening.connected_of.Goals as goal

pub loop-line-init : goal.loop-line-init
loop-line-init c =
    let comps = c.args.system.now.comps in
    let place = c.args.component in
    let here = c.index-comps-place.result in
    let found = slice_get_read comps (length comps) place here refl c.requires (c.index-comps-place.is ∙ ap (λ (xs : List Comp). get_or xs place here) c.comps.ensures) in
    let n = length c.items.result.now in
    let flags : c.in_ok-flags.flags.items ≡ replicate n false = c.in_ok-flags.ensures.items_if_clones_equal (λ y h. h) in
    record {
      count = λ comp there. unmarked-count c.in_ok-flags.flags.items n flags
          ∙ ap (λ (xs : List Field). length xs) c.items.ensures
          ∙ ap (λ (q : Comp). length q.fields) (same-member comps place here comp found there);
      marked = λ k. unmarked c.in_ok-flags.flags.items n k flags;
    }

pub mark_pairs-requires : goal.mark_pairs-requires
mark_pairs-requires c =
    let coupling = c.args.system.now in
    let place = c.args.component in
    let here = c.index-comps-place.result in
    let found = slice_get_read coupling.comps (length coupling.comps) place here refl c.requires (c.index-comps-place.is ∙ ap (λ (xs : List Comp). get_or xs place here) c.comps.ensures) in
    let n = c.loop-line.line-index in
    let line = c.line-item.result in
    let below : n < length coupling.links = subst (λ (xs : List Link). n < length xs) c.links-line-items.ensures c.loop-line-test.true in
    let line_is : line ≡ get_or coupling.links n line = c.line-item.is ∙ ap (λ (xs : List Link). get_or xs n line) c.links-line-items.ensures in
    let connector : IsConnector coupling.comps line = subst (IsConnector coupling.comps) (sym line_is) (c.facts.ensures.links n line below) in
    let fields = length c.loop-line.flags.items in
    let P : List Pair → Type 0 = All (IsPairWithin place fields) in
    subst P (sym c.items-in-loop-line.ensures)
    (pairs-within coupling.comps line place fields here found (c.loop-line.invariant.count here found) connector)

pub loop-line-preserved : goal.loop-line-preserved
loop-line-preserved c =
    let links = c.args.system.now.links in
    let n = c.loop-line.line-index in
    let line = c.line-item.result in
    let below : n < length links = subst (λ (xs : List Link). n < length xs) c.links-line-items.ensures c.loop-line-test.true in
    let line_is : line ≡ get_or links n line = c.line-item.is ∙ ap (λ (xs : List Link). get_or xs n line) c.links-line-items.ensures in
    record {
      count = λ comp there. c.mark_pairs.ensures.count ∙ c.loop-line.invariant.count comp there;
      marked = λ k. fed-more links n line c.args.component k (get_or c.loop-line.flags.items k false) (get_or c.mark_pairs.new.flags.items k false)
          c.items-in-loop-line.result.now below line_is c.items-in-loop-line.ensures (c.mark_pairs.ensures.marked k) (c.loop-line.invariant.marked k);
    }

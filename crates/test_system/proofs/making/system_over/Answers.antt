use Rattle.std.proofs.Common.{◌≡◌, ◌∙◌, List, ap, length, map, subst, sym}
use Rattle.std.specs.List.{All, zip}
use Rattle.cpl_comp.specs.declared.component.Comp.{Comp}
use Rattle.cpl_init.specs.Waiting.{IsInitialOrder}
use Rattle.cpl_match.specs.Pairs.{ArePairs}
use Rattle.cpl_match.specs.declared.port.Pair.{Pair}
use Rattle.cpl_script.specs.Matched.{cell_counts, ports_of, way_of}
use Rattle.cpl_script.specs.Operations.{needs_in}
use Rattle.cpl_script.specs.Sound.{AreParts}
use Rattle.cpl_sequence.specs.declared.link_line.LinkLine.{LinkLine}
use Rattle.test_system.specs.Weighed.{IsWeighed}
use Rattle.test_system.proofs.MakingFacts.{parts-accepted}
use Rattle.test_system.proofs.making.system_over.Goals as goal

pub new-requires : goal.new-requires
new-requires c =
    let comps = c.args.comps.items in
    let seq = c.args.seq in
    let dict = c.args.dict.now in
    let pairs = c.in_ok-pairs.pairs in
    let init = c.in_ok-init.init.items in
    let weights = c.in_ok-weights.weights.items in
    let paired = subst (λ (cs : List Comp). ArePairs dict (cell_counts cs) (map way_of seq.links) (ports_of cs) pairs) c.as_slice.ensures.value c.in_ok-pairs.ensures in
    let ordered = subst (λ (cs : List Comp). IsInitialOrder (length cs) (needs_in cs c.items.result.now) init) c.as_slice-2.ensures.value c.in_ok-init.ensures in
    let order = subst (λ (ps : List Pair). IsInitialOrder (length comps) (needs_in comps ps) init) c.items.ensures ordered in
    let count : length weights ≡ length seq.links = c.in_ok-weights.ensures.count ∙ ap length c.links.ensures.value in
    let given = subst (λ (cs : List Comp). All (IsWeighed cs) (zip c.links.result.now weights)) c.as_slice-3.ensures.value c.in_ok-weights.ensures.each in
    let weighed = subst (λ (ls : List LinkLine). All (IsWeighed comps) (zip ls weights)) c.links.ensures.value given in
    subst AreParts (sym c.parts_of-parts.ensures)
    (parts-accepted comps seq pairs init weights c.args.pets dict c.requires.read c.requires.values c.requires.over c.requires.end c.requires.begun paired order count weighed)

-- The operations of the initialisation, and of all, are operations of a system.
use Rattle.std.proofs.Common.{◌≡◌, ℕ, ◌<◌, true, List, [], ◌∷◌, length, map, get_or, take, ap, ◌∙◌, sym, subst, arith}
use Rattle.std.specs.Prelude.{slice_get, slice_index}
use Rattle.std.specs.List.{All, flat_map, range_with_len}
use Rattle.std.specs.Option.{option_map_or}
use Rattle.std.proofs.lemmas.List.{length-map}
use Rattle.std.proofs.lemmas.List.Elements.{All-append, All-cons, All-filter, All-map, All-nil}
use Rattle.cpl_comp.specs.declared.component.Comp.{Comp}
use Rattle.cpl_init.specs.Orders.{can_follow}
use Rattle.cpl_init.specs.Waiting.{IsInitialOrder}
use Rattle.cpl_init.specs.declared.needs.Needs.{Needs}
use Rattle.cpl_sequence.specs.Bounds.{IsOpOver, IsOpWithin, IsOver}
use Rattle.cpl_sequence.specs.Operations.{operations_of}
use Rattle.cpl_sequence.specs.declared.op.Op.{Op}
use Rattle.cpl_sequence.specs.declared.op.Op.TheVariants.{Init, Link as LinkOp, Run}
use Rattle.cpl_sequence.proofs.ListFacts.{All-flat_map, Every-from_places, All-at}
use Rattle.cpl_script.specs.Couplings.{Coupling}
use Rattle.cpl_script.specs.Matched.{name_of, names_of}
use Rattle.cpl_script.specs.Operations.{comp_init_ops, init_ops, needed_links, needed_links_from, ops_of}
use Rattle.cpl_script.specs.Sound.{IsOpOf}
use Rattle.cpl_script.specs.declared.link.Link.{Link}
use Rattle.cpl_script.proofs.ListFacts.{find-All, get-mapped}
use Rattle.cpl_script.proofs.RangeFacts.{range-within}

-- each member of an order is a listed component
pub order-listed : (count : ℕ) (needs : List Needs) (order : List ℕ) → IsInitialOrder count needs order → All (λ c. c < count) order
order-listed count needs order is = λ k d inside.
    let within : k < count = omega (arith, is.size) in
    let next = is.places k within in
    let below = find-All (λ (c : ℕ). c < count) (can_follow needs (take k order)) (range_with_len 0 count) (slice_index order k) (range-within (λ c. c < count) 0 count (λ c below. omega arith)) next in
    subst (λ (c : ℕ). c < count) (Rattle.std.proofs.lemmas.List.get_or_default order k 0 d inside) below

-- the connectors that a component needs are there
needed-below : (comps : List Comp) (links : List Link) (component : ℕ) → All (λ n. n < length links) (needed_links comps links component)
needed-below comps links component =
    All-flat_map (λ n. n < length links) (needed_links_from comps links component) (range_with_len 0 (length comps)) (Every-from_places _ (range_with_len 0 (length comps)) (λ k producer at.
    All-filter _ (λ n. n < length links) (range_with_len 0 (length links)) (range-within (λ n. n < length links) 0 (length links) (λ n below. omega arith))))

-- the operations of the initialisation of a component
comp-ops : (coupling : Coupling) (component : ℕ) → component < length coupling.comps → All (IsOpOf coupling) (comp_init_ops coupling.comps coupling.links component)
comp-ops coupling component listed =
    let needed = needed_links coupling.comps coupling.links component in
    All-append (IsOpOf coupling) (map (λ n. LinkOp n true) needed) (Init component ∷ [])
    (All-map (IsOpOf coupling) (λ n. LinkOp n true) needed (needed-below coupling.comps coupling.links component))
    (All-cons (IsOpOf coupling) (Init component) [] listed (All-nil (IsOpOf coupling)))

-- those of all components
init-ops : (coupling : Coupling) → All (λ c. c < length coupling.comps) coupling.init → All (IsOpOf coupling) (init_ops coupling.comps coupling.links coupling.init)
init-ops coupling listed =
    All-flat_map (IsOpOf coupling) (comp_init_ops coupling.comps coupling.links) coupling.init (Every-from_places _ coupling.init (λ k component at.
    comp-ops coupling component (All-at (λ c. c < length coupling.comps) coupling.init k component listed at)))

-- an operation of the run sequence
pub run-op : (coupling : Coupling) (op : Op) → length coupling.links ≡ length coupling.sequence.links → IsOpOver (names_of coupling.comps) op → IsOpWithin coupling.sequence op → IsOpOf coupling op
run-op coupling (Init component) lines over within = absurd over
run-op coupling (LinkOp link at_init) lines over within = omega (arith, within.below)
run-op coupling (Run component phase time step at substep first last) lines over within =
    let of = get-mapped name_of coupling.comps component over.name over.named in
    let below : phase < length over.name.phases = over.phase_below in
    record {
      comp = of.of;
      there = of.at;
      phase_below = (let count : length over.name.phases ≡ length of.of.phases = ap (λ name. length name.phases) (sym of.is) ∙ length-map of.of.phases (λ phase. phase.label) in omega arith);
      substep_is = over.substep_is ∙ ap (λ name. Rattle.std.specs.Prelude.unwrap_or name.substep step) (sym of.is);
      within = within;
    }

-- all operations of a system
pub all-ops : (coupling : Coupling) → All (λ c. c < length coupling.comps) coupling.init → length coupling.links ≡ length coupling.sequence.links → IsOver (names_of coupling.comps) coupling.sequence → All (IsOpOf coupling) (ops_of coupling)
all-ops coupling listed lines over =
    All-append (IsOpOf coupling) (init_ops coupling.comps coupling.links coupling.init) (operations_of coupling.sequence)
    (init-ops coupling listed)
    (λ k d inside. run-op coupling (get_or (operations_of coupling.sequence) k d) lines (over.operations k d inside) (over.within k d inside))

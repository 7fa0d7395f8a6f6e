-- The operations of a system: those of its initialisation, then those of its run sequence.
use Rattle.std.specs.Prelude.{ℕ, ◌==◌, ◌&&◌, Bool, true, false, List, [], ◌∷◌, ◌++◌, filter, length, map, slice_get}
use Rattle.std.specs.List.{flat_map, list_any, range_with_len}
use Rattle.std.specs.Option.{option_map_or}
use Rattle.cpl_comp.specs.declared.component.Comp.{Comp}
use Rattle.cpl_init.specs.declared.needs.Needs.{Needs}
use Rattle.cpl_match.specs.declared.port.Pair.{Pair}
use Rattle.cpl_sequence.specs.Operations.{operations_of}
use Rattle.cpl_sequence.specs.declared.op.Op.{Op}
use Rattle.cpl_sequence.specs.declared.op.Op.TheVariants.{Init, Link as LinkOp}
use Rattle.cpl_script.specs.Couplings.{Coupling}
use Rattle.cpl_script.specs.declared.link.Link.{Link}

-- ---- what an initialisation needs

-- whether the import that a pair feeds is taken before its component is initialised
abbrev pub is_init_pair : List Comp → Pair → Bool
is_init_pair comps pair =
    option_map_or (λ comp. option_map_or (λ field. field.at_init) (slice_get comp.fields pair.dst_field) false) (slice_get comps pair.dst) false

-- what components need before they are initialised: of each such pair the producer
abbrev pub needs_in : List Comp → List Pair → List Needs
needs_in comps pairs = map (λ pair. record { component = pair.dst; producer = pair.src }) (filter (is_init_pair comps) pairs)

-- ---- operations

-- whether a connector leads from a producer to a component that needs it
abbrev pub is_needed_link : List Comp → (component producer : ℕ) → Link → Bool
is_needed_link comps component producer link =
    link.line.src == producer && link.line.dst == component && list_any (is_init_pair comps) link.pairs

-- the places of the connectors of a list that lead so
abbrev pub needed_links_from : List Comp → List Link → (component producer : ℕ) → List ℕ
needed_links_from comps links component producer =
    filter (λ n. option_map_or (is_needed_link comps component producer) (slice_get links n) false) (range_with_len 0 (length links))

-- the connectors that a component needs, by their producers in list order
abbrev pub needed_links : List Comp → List Link → ℕ → List ℕ
needed_links comps links component = flat_map (needed_links_from comps links component) (range_with_len 0 (length comps))

-- for a component: the connectors from the producers that it needs, then its own initialisation
abbrev pub comp_init_ops : List Comp → List Link → ℕ → List Op
comp_init_ops comps links component = map (λ n. LinkOp n true) (needed_links comps links component) ++ Init component ∷ []

-- the operations of the initialisation, component by component in its order
abbrev pub init_ops : List Comp → List Link → List ℕ → List Op
init_ops comps links order = flat_map (comp_init_ops comps links) order

-- all operations, in their order; their numbers are their places, from 0
abbrev pub ops_of : Coupling → List Op
ops_of coupling = init_ops coupling.comps coupling.links coupling.init ++ operations_of coupling.sequence

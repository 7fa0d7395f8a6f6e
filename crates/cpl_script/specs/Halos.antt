-- Which cells PETs send each other for an initialisation or for a phase, and how many numbers these are.
use Rattle.std.specs.Prelude.{ℕ, ◌+◌, ◌*◌, List, [], length, slice_get, sum_by, Option, Some, None}
use Rattle.std.specs.Option.{option_map_or}
use Rattle.cpl_comp.specs.declared.component.Comp.{Comp}
use Rattle.cpl_comp.specs.declared.component.Halo.{Halo}
use Rattle.cpl_comp.specs.declared.component.Phase.{Phase}
use Rattle.cpl_route.specs.Routes.{Leg, cells_sent, halo_route}
use Rattle.cpl_script.specs.Couplings.{Coupling}

-- nothing is read beside the cell
abbrev pub no_halo : Halo
no_halo = record { offsets = []; fields = [] }

-- what the rules of a phase read beside the cell, or the start rules where no phase is given
abbrev pub halo_in : Comp → Option ℕ → Halo
halo_in comp None = comp.start_halo
halo_in comp (Some phase) = option_map_or (λ p. p.halo) (slice_get comp.phases phase) no_halo

-- the route of a halo over the component's grid
abbrev pub route_of_halo : Comp → Halo → List Leg
route_of_halo comp halo = halo_route comp.decomp halo.offsets

-- the route of a phase of the component of a place, or of its initialisation
abbrev pub halo_route_at : Coupling → ℕ → Option ℕ → List Leg
halo_route_at coupling component phase =
    option_map_or (λ comp. route_of_halo comp (halo_in comp phase)) (slice_get coupling.comps component) []

-- how many numbers a halo moves: its cells for each of its fields
abbrev pub halo_numbers : Comp → Halo → ℕ
halo_numbers comp halo = cells_sent (route_of_halo comp halo) * length halo.fields

-- how many numbers the initialisation of a component and its phases move, each once
abbrev pub comp_numbers : Comp → ℕ
comp_numbers comp = halo_numbers comp comp.start_halo + sum_by (λ phase. halo_numbers comp phase.halo) comp.phases

-- What a PET has of the world, and what one PET sends another for an operation.
use Rattle.std.specs.Prelude.{ℕ, ◌-◌, ◌/◌, ◌+◌, ◌≤◌, ℤ, Bool, ◌&&◌, ◌||◌, ◌==◌, nat_le, nat_lt, not, List, [], filter, map, slice_get, Option, Some, None}
use Rattle.std.specs.List.{enumerate_from, flat_map}
use Rattle.std.specs.Option.{option_map_or}
use Rattle.cpl_comp.specs.Readings.{EntryAnswers}
use Rattle.cpl_comp.specs.RunFaults.{Fault}
use Rattle.cpl_comp.specs.Turns.{Turn}
use Rattle.cpl_comp.specs.Worlds.{CompWorld, FieldWorld, cell_value, field_value}
use Rattle.cpl_comp.specs.declared.component.Comp.{Comp}
use Rattle.cpl_comp.specs.declared.component.Halo.{Halo}
use Rattle.cpl_grid.specs.Owners.{Layout, cells_of, owner_of}
use Rattle.cpl_match.specs.declared.port.Pair.{Pair}
use Rattle.cpl_route.specs.Routes.{Leg, cells_between}
use Rattle.cpl_sequence.specs.declared.op.Op.{Op}
use Rattle.cpl_sequence.specs.declared.op.Op.TheVariants.{Init, Link, Run}
use Rattle.cpl_script.specs.Couplings.{Coupling, layout_at}
use Rattle.cpl_script.specs.Halos.{halo_in, halo_route_at}
use Rattle.cpl_script.specs.SerialRun.{phase_faults}
use Rattle.cpl_script.specs.Transfers.{World, carried_pairs, comp_at}

-- ---- parts

-- the values at the cells of a PET, in their order
abbrev pub values_part : Layout → ℕ → List ℤ → List ℤ
values_part layout pet values = map (cell_value values) (cells_of layout pet)

-- the part of a field: its values and what is kept for it, cut alike, and its stamp
abbrev pub field_part : Layout → ℕ → FieldWorld → FieldWorld
field_part layout pet field =
    record field { values = values_part layout pet field.values; kept = map (values_part layout pet) field.kept }

-- the part of a component: that of each field, and its clock and number of runs
abbrev pub comp_part : Layout → ℕ → CompWorld → CompWorld
comp_part layout pet comp = record comp { fields = map (field_part layout pet) comp.fields }

-- the part of a world for a PET: that of each component
abbrev pub world_part : List Comp → ℕ → World → World
world_part comps pet world = map (λ numbered. comp_part (layout_at comps numbered.0) pet numbered.1) (enumerate_from 0 world)

-- ---- parcels

-- what one PET sends another for a halo: each field that is read beside the cell, at these cells
abbrev pub halo_parcel : Halo → CompWorld → List ℕ → List ℤ
halo_parcel halo comp cells = flat_map (λ k. map (field_value comp.fields k) cells) halo.fields

-- what one PET sends another for a connector: each export that is carried, at these cells
abbrev pub link_parcel : List Pair → World → List ℕ → List ℤ
link_parcel pairs world cells = flat_map (λ pair. map (field_value (comp_at world pair.src).fields pair.src_field) cells) pairs

-- the cells that one PET sends another for an operation
abbrev pub cells_for : Coupling → Op → (from to : ℕ) → List ℕ
cells_for coupling (Init component) from to = cells_between (halo_route_at coupling component None) from to
cells_for coupling (Link link at_init) from to = option_map_or (λ line. cells_between line.route from to) (slice_get coupling.links link) []
cells_for coupling (Run component phase time step at substep first last) from to =
    cells_between (halo_route_at coupling component (Some phase)) from to

-- the halo parcel of a phase of the component of a place, or of its initialisation
abbrev pub halo_parcel_at : Coupling → World → ℕ → Option ℕ → List ℕ → List ℤ
halo_parcel_at coupling world component phase cells =
    option_map_or (λ comp. halo_parcel (halo_in comp phase) (comp_at world component) cells) (slice_get coupling.comps component) []

-- the parcel of an operation from one PET to another, in the world before it
abbrev pub parcel_of : Coupling → World → Op → (from to : ℕ) → List ℤ
parcel_of coupling world (Init component) from to =
    halo_parcel_at coupling world component None (cells_for coupling (Init component) from to)
parcel_of coupling world (Link link at_init) from to =
    option_map_or
    (λ line. link_parcel (carried_pairs coupling.comps line at_init) world (cells_between line.route from to))
    (slice_get coupling.links link) []
parcel_of coupling world (Run component phase time step at substep first last) from to =
    halo_parcel_at coupling world component (Some phase)
    (cells_between (halo_route_at coupling component (Some phase)) from to)

-- ---- shares

-- whether a component lives on a PET
abbrev pub lives_on : Comp → ℕ → Bool
lives_on comp pet = nat_le comp.first_pet pet && nat_lt pet (comp.first_pet + comp.pets)

-- whether a fault is a PET's: those of clock, stamps and averages are of all the component's PETs, and those of a cell
-- are of the PET that owns it
abbrev pub is_share : Comp → ℕ → Fault → Bool
is_share comp pet fault =
    (nat_lt fault.place 129 && lives_on comp pet)
    || (nat_le 129 fault.place && owner_of comp.decomp ((fault.place - 129) / 8 + 1) == pet)

-- what a PET finds of the faults of an operation, in the world before it
abbrev pub share_of : Coupling → EntryAnswers → World → ℕ → Op → List Fault
share_of coupling entries world pet (Init component) = []
share_of coupling entries world pet (Link link at_init) = []
share_of coupling entries world pet (Run component phase time step at substep first last) =
    option_map_or
    (λ comp. filter (is_share comp pet) (phase_faults coupling entries world component phase
    (record { time = time; step = step; at = at; substep = substep; first = first; last = last })))
    (slice_get coupling.comps component) []

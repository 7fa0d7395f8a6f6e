-- Routes, parts and parcels of small systems, evaluated.
use Rattle.std.specs.Prelude.{◌≡◌, ℕ, ℤ, pos, negsuc, Bool, true, false, List, [], ◌∷◌, map, Option, Some, None, Ok, Err}
use Rattle.cpl_comp.specs.Worlds.{CompWorld}
use Rattle.cpl_comp.specs.declared.component.Comp.{Comp}
use Rattle.cpl_comp.specs.declared.component.Kind.TheVariants.{Model}
use Rattle.cpl_comp.specs.declared.component.RangeRow.{RangeRow}
use Rattle.cpl_comp.specs.declared.component.Wanted.TheVariants.{Current}
use Rattle.cpl_formula.specs.declared.arguments.Argument.TheVariants.{Number}
use Rattle.cpl_route.specs.Routes.{Leg}
use Rattle.cpl_sequence.specs.declared.link_line.Method.TheVariants.{Redist}
use Rattle.cpl_sequence.specs.declared.op.Op.{Op}
use Rattle.cpl_sequence.specs.declared.op.Op.TheVariants.{Init, Link}
use Rattle.cpl_script.specs.Couplings.{Coupling}
use Rattle.cpl_script.specs.Examples.{beside, cell_number, comp_of, entries, export_of, flat_grid, here, import_of, line_of, link_element, one_loop, only_pair, parts_with, phase_of, run_at, run_element, set_of, sum_rule, units, units_rule, var_of}
use Rattle.cpl_script.specs.Halos.{halo_route_at}
use Rattle.cpl_script.specs.Parts.{parcel_of, share_of, world_part}
use Rattle.cpl_script.specs.SerialRun.{world_of}
use Rattle.cpl_script.specs.Systems.{coupling_of, route_total}
use Rattle.cpl_script.specs.Transfers.{comp_at}

-- a route's leg
abbrev pub leg : ℕ → ℕ → List ℕ → Leg
leg from to cells = record { from = from; to = to; cells = cells }

-- ---- five cells on three PETs and on two

-- a model on PETs 0 to 2 that exports the numbers of its cells, and one on PETs 1 and 2 that takes them
abbrev pub giver : Comp
giver = comp_of Model (flat_grid 5 1) 0 3 1 None (export_of (sum_rule (cell_number ∷ [])) ∷ []) (phase_of 1 (set_of 0 (sum_rule (here 0 ∷ [])) ∷ []) [] ∷ [])

abbrev pub taker : Comp
taker =
    comp_of Model (flat_grid 5 1) 1 2 1 None (var_of (units_rule 0) ∷ import_of Current false ∷ [])
    (phase_of 2 (set_of 0 (sum_rule (here 1 ∷ [])) ∷ []) (record { field = 1; low = pos 0; high = units 3 } ∷ []) ∷ [])

-- the two with their connector
abbrev pub spread : Coupling
spread =
    coupling_of (parts_with (giver ∷ taker ∷ [])
    (one_loop (line_of Redist 0 1 ∷ []) 1 (link_element 0 ∷ run_element 0 ∷ run_element 1 ∷ []))
    (only_pair ∷ []) (0 ∷ 1 ∷ []) (None ∷ []) 3)

-- its operations up to the connector, and behind it
abbrev pub before_link : List Op
before_link = Init 0 ∷ Init 1 ∷ []

abbrev pub behind_link : List Op
behind_link = Init 0 ∷ Init 1 ∷ Link 0 false ∷ []

-- the values of the fields of a component
abbrev pub values_in : CompWorld → List (List ℤ)
values_in comp = map (λ field. field.values) comp.fields

-- Routes and parcels of a connector, and parts and shares of PETs.
pub record PartExamples : Type 0 where
  pub route : map (λ link. link.route) spread.links ≡ (leg 0 1 (1 ∷ 2 ∷ []) ∷ leg 1 1 (3 ∷ []) ∷ leg 1 2 (4 ∷ []) ∷ leg 2 2 (5 ∷ []) ∷ []) ∷ []
  pub numbers : route_total spread ≡ 5
  pub parcel : parcel_of spread (world_of spread entries before_link) (Link 0 false) 0 1 ≡ units 1 ∷ units 2 ∷ []
  pub own_parcel : parcel_of spread (world_of spread entries before_link) (Link 0 false) 2 2 ≡ units 5 ∷ []
  pub no_parcel : parcel_of spread (world_of spread entries before_link) (Link 0 false) 0 2 ≡ []
  pub not_at_init : parcel_of spread (world_of spread entries before_link) (Link 0 true) 0 1 ≡ []
  pub part_of_first : map values_in (world_part spread.comps 0 (world_of spread entries behind_link)) ≡ ((units 1 ∷ units 2 ∷ []) ∷ []) ∷ ([] ∷ [] ∷ []) ∷ []
  pub part_of_second : map values_in (world_part spread.comps 1 (world_of spread entries behind_link))
      ≡ ((units 3 ∷ units 4 ∷ []) ∷ []) ∷ ((pos 0 ∷ pos 0 ∷ pos 0 ∷ []) ∷ (units 1 ∷ units 2 ∷ units 3 ∷ []) ∷ []) ∷ []
  -- cells 4 and 5 are out of range, and PET 2 owns both
  pub share_of_second : share_of spread entries (world_of spread entries behind_link) 1 (run_at 1 0 0 1) ≡ []
  pub share_of_third : map (λ fault. fault.place) (share_of spread entries (world_of spread entries behind_link) 2 (run_at 1 0 0 1)) ≡ 153 ∷ 161 ∷ []

-- ---- three cells on a ring

-- a model that adds to each cell both its neighbours, of which one is two cells off: the same cell
abbrev pub ring : Coupling
ring =
    coupling_of (parts_with
    (comp_of Model (record { nx = 3; ny = 1; periodic = true }) 0 3 1 None (var_of (sum_rule (cell_number ∷ [])) ∷ [])
    (phase_of 1 (set_of 0 (sum_rule (beside 0 (pos 1) ∷ beside 0 (negsuc 1) ∷ [])) ∷ []) [] ∷ []) ∷ [])
    (one_loop [] 1 (run_element 0 ∷ [])) [] (0 ∷ []) [] 3)

-- Routes and parcels of a halo.
pub record HaloExamples : Type 0 where
  pub start : halo_route_at ring 0 None ≡ []
  pub phase : halo_route_at ring 0 (Some 0) ≡ leg 0 2 (1 ∷ []) ∷ leg 1 0 (2 ∷ []) ∷ leg 2 1 (3 ∷ []) ∷ []
  pub numbers : route_total ring ≡ 3
  pub parcel : parcel_of ring (world_of ring entries (Init 0 ∷ [])) (run_at 0 0 0 1) 1 0 ≡ units 2 ∷ []

-- The code's own: what a system keeps beside its parts.
use Rattle.std.specs.Prelude.{◌≡◌, ℕ, ◌^◌, nat_le, List, ◌++◌, length, map, Result, Ok}
use Rattle.std.specs.List.{All}
use Rattle.cpl_base.specs.ResultChain.{◌>>=◌, ok_if}
use Rattle.cpl_comp.specs.declared.component.Comp.{Comp}
use Rattle.cpl_route.specs.Routes.{AreOffsets}
use Rattle.cpl_sequence.specs.Operations.{operations_of}
use Rattle.cpl_sequence.specs.Sequence.{Sequence}
use Rattle.cpl_sequence.specs.declared.op.Op.{Op}
use Rattle.cpl_script.specs.Couplings.{Coupling}
use Rattle.cpl_script.specs.Halos.{route_of_halo}
use Rattle.cpl_script.specs.Operations.{init_ops}
use Rattle.cpl_script.specs.Sound.{IsCoupling}
use Rattle.cpl_script.specs.Systems.{capped}
use Rattle.cpl_script.specs.declared.fault.SystemFault.{SystemFault}
use Rattle.cpl_script.specs.declared.fault.SystemFault.TheVariants.{TooManyOps, TooManyRoutes}
use Rattle.cpl_script.specs.declared.link.Link.{Link}
use Rattle.cpl_script.specs.declared.halos.HaloRoutes.{HaloRoutes}

-- the routes of the initialisation and of the phases of a component
abbrev pub halo_routes_of : Comp → HaloRoutes
halo_routes_of comp = record {
  start = route_of_halo comp comp.start_halo;
  phases = map (λ phase. route_of_halo comp phase.halo) comp.phases;
}

-- the operations of an initialisation, if there aren't too many with those of the run sequence
abbrev pub accepted_ops : List Comp → List Link → List ℕ → Sequence → Result (List Op) SystemFault
accepted_ops comps links order seq =
    let ops = init_ops comps links order in
    let total = length (ops ++ operations_of seq) in
    ok_if (nat_le total (2 ^ 24)) (TooManyOps (capped total)) >>= (λ _. Ok ops)

-- the routes of the halos of components, if so many numbers aren't too many
abbrev pub accepted_halos : List Comp → ℕ → Result (List HaloRoutes) SystemFault
accepted_halos comps total =
    ok_if (nat_le total (2 ^ 25)) (TooManyRoutes (capped total)) >>= (λ _. Ok (map halo_routes_of comps))

-- What halos read lies at most two columns and two rows away.
pub record HasNearHalos (comp : Comp) : Type 0 where
  pub start : AreOffsets comp.start_halo.offsets
  pub phases : All (λ phase. AreOffsets phase.halo.offsets) comp.phases

-- What is kept of a system: the routes of its halos, and the operations of its initialisation.
pub record IsKept (coupling : Coupling) (halos : List HaloRoutes) (ops : List Op) : Type 0 where
  pub coupling_is : IsCoupling coupling
  pub halos_are : halos ≡ map halo_routes_of coupling.comps
  pub ops_are : ops ≡ init_ops coupling.comps coupling.links coupling.init

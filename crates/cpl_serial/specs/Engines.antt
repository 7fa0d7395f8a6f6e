-- The components of a system on their whole grids, and the world that they stand for.
use Rattle.std.specs.Prelude.{◌≡◌, ℕ, ◌≤◌, List, length, slice_get, Some}
use Rattle.std.specs.List.{All}
use Rattle.cpl_block.specs.Laws.{IsAlone}
use Rattle.cpl_comp.specs.declared.component.Comp.{Comp}
use Rattle.cpl_grid.specs.Grid.{cells_in}
use Rattle.cpl_grid.specs.Parts.{whole_part}
use Rattle.cpl_marks.specs.Plans.{is_connected as is_held_connected}
use Rattle.cpl_phase.specs.Locals.{IsLocal, StandsForComp}
use Rattle.cpl_phase.specs.declared.local.LocalComp.{LocalComp}
use Rattle.cpl_script.specs.Couplings.{Coupling, is_connected}
use Rattle.cpl_script.specs.Held.{IsHeldWorld}
use Rattle.cpl_script.specs.Transfers.{World, comp_at}
use Rattle.cpl_serial.specs.declared.linking.Buffers.{Buffers}

-- The component of a place of a system, on its whole grid.
pub record IsWhole (coupling : Coupling) (place : ℕ) (comp : Comp) (local : LocalComp) : Type 0 where
  pub is : IsLocal comp local
  pub whole : local.frame.part ≡ whole_part local.frame.grid
  pub alone : IsAlone local.frame
  pub connected : (k : ℕ) → is_held_connected local.connected k ≡ is_connected coupling place k

-- All components of a system.
pub record AreWhole (coupling : Coupling) (locals : List LocalComp) : Type 0 where
  pub size : length locals ≡ length coupling.comps
  pub each : (c : ℕ) (comp : Comp) (local : LocalComp)
      → slice_get coupling.comps c ≡ Some comp → slice_get locals c ≡ Some local → IsWhole coupling c comp local

-- Each stands for its component of a world.
pub record StandEach (coupling : Coupling) (world : World) (locals : List LocalComp) : Type 0 where
  pub size : length world ≡ length coupling.comps
  pub each : (c : ℕ) (comp : Comp) (local : LocalComp)
      → slice_get coupling.comps c ≡ Some comp → slice_get locals c ≡ Some local → StandsForComp comp (comp_at world c) local

-- They stand for a world over the system's components, in which each field has a value for each cell.
pub record StandForWorld (coupling : Coupling) (world : World) (locals : List LocalComp) : Type 0 where
  pub held : IsHeldWorld coupling.comps world
  pub each : (c : ℕ) (comp : Comp) (local : LocalComp)
      → slice_get coupling.comps c ≡ Some comp → slice_get locals c ≡ Some local → StandsForComp comp (comp_at world c) local

-- Room for the values of each component's cells, and for what a row of weights takes of them.
pub record HaveRoomFor (coupling : Coupling) (buffers : Buffers) : Type 0 where
  pub image : All (λ comp. cells_in comp.decomp.grid ≤ length buffers.image) coupling.comps
  pub gathered : All (λ comp. cells_in comp.decomp.grid ≤ length buffers.gathered) coupling.comps

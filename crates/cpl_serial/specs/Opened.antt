-- What holds of the components of a system when they were made.
use Rattle.std.specs.Prelude.{◌≡◌, ℕ, ◌<◌, Bool, List, length, slice_get, Some}
use Rattle.std.specs.List.{list_any}
use Rattle.cpl_comp.specs.Worlds.{first_comp}
use Rattle.cpl_comp.specs.declared.component.Comp.{Comp}
use Rattle.cpl_match.specs.declared.port.Pair.{Pair}
use Rattle.cpl_phase.specs.Locals.{IsAged, StandsForComp}
use Rattle.cpl_phase.specs.declared.local.LocalComp.{LocalComp}
use Rattle.cpl_script.specs.Couplings.{Coupling, is_pair_into}
use Rattle.cpl_script.specs.declared.link.Link.{Link}
use Rattle.cpl_serial.specs.Engines.{IsWhole}

-- a pair that leads into a component leads to one of its so many fields
abbrev pub IsPairWithin : ℕ → ℕ → Pair → Type 0
IsPairWithin component fields pair = pair.dst ≡ component → pair.dst_field < fields

-- whether a connector feeds the field of a component
abbrev pub is_fed_by : ℕ → ℕ → Link → Bool
is_fed_by component field link = list_any (is_pair_into component field) link.pairs

-- The component of a place of a system, on its whole grid, at the start.
pub record IsOpened (coupling : Coupling) (place : ℕ) (comp : Comp) (local : LocalComp) : Type 0 where
  pub whole : IsWhole coupling place comp local
  pub start : StandsForComp comp (first_comp comp) local
  pub young : IsAged 0 local

-- The first so many components of a system.
pub record AreOpenedTo (k : ℕ) (coupling : Coupling) (locals : List LocalComp) : Type 0 where
  pub size : length locals ≡ k
  pub each : (c : ℕ) (comp : Comp) (local : LocalComp)
      → slice_get coupling.comps c ≡ Some comp → slice_get locals c ≡ Some local → IsOpened coupling c comp local

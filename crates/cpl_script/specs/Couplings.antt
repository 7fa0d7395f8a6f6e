-- What contracts see of a system: an accepted configuration, and what is looked up in it.
use Rattle.std.specs.Prelude.{ℕ, ◌==◌, ◌&&◌, Bool, false, List, slice_get}
use Rattle.std.specs.List.{list_any}
use Rattle.std.specs.Option.{option_map_or}
use Rattle.cpl_comp.specs.Timing.{Timing}
use Rattle.cpl_comp.specs.declared.component.Comp.{Comp}
use Rattle.cpl_grid.specs.Owners.{Layout}
use Rattle.cpl_match.specs.declared.port.Pair.{Pair}
use Rattle.cpl_sequence.specs.Sequence.{Sequence}
use Rattle.cpl_script.specs.declared.link.Link.{Link}

-- A system: its components in list order, its connectors in the order of their first lines, the order in which
-- components are initialised, the run sequence, calendar, start and alarms, and how many PETs there are.
pub record Coupling : Type 0 where
  pub comps : List Comp
  pub links : List Link
  pub init : List ℕ
  pub sequence : Sequence
  pub timing : Timing
  pub pets : ℕ

-- the decomposed grid of no component
abbrev pub no_layout : Layout
no_layout = record { grid = record { nx = 0; ny = 0; periodic = false }; px = 0; py = 0; first_pet = 0 }

-- the decomposed grid of the component of a place
abbrev pub layout_at : List Comp → ℕ → Layout
layout_at comps component = option_map_or (λ comp. comp.decomp) (slice_get comps component) no_layout

-- a pair feeds this field
abbrev pub is_pair_into : ℕ → ℕ → Pair → Bool
is_pair_into component field pair = pair.dst == component && pair.dst_field == field

-- whether some export feeds the field of a component
abbrev pub is_connected : Coupling → ℕ → ℕ → Bool
is_connected coupling component field = list_any (λ link. list_any (is_pair_into component field) link.pairs) coupling.links

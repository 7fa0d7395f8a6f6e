-- What a component on a block works in, and what it keeps sums for.
use Rattle.std.specs.Prelude.{◌≡◌, ℕ, ◌+◌, ◌*◌, ◌≤◌, ◌||◌, Bool, length}
use Rattle.std.specs.List.{All, list_any}
use Rattle.cpl_block.specs.declared.frame.Frame.{Frame}
use Rattle.cpl_comp.specs.Components.{added_fields}
use Rattle.cpl_comp.specs.Turns.{is_among}
use Rattle.cpl_comp.specs.declared.component.Comp.{Comp}
use Rattle.cpl_comp.specs.declared.component.Phase.{Phase}
use Rattle.cpl_grid.specs.Parts.{cells_of_part}
use Rattle.cpl_rule.specs.declared.demand.Demand.{Demand}
use Rattle.cpl_rule.specs.declared.room.Room.{Room}
use Rattle.cpl_phase.specs.Refreshed.{AreOnBlock}
use Rattle.cpl_phase.specs.Starts.{places_started}
use Rattle.cpl_phase.specs.declared.spare.Spare.{Spare}

-- how many cells a block has
abbrev pub cell_count : Frame → ℕ
cell_count frame = length (cells_of_part frame.grid frame.part)

-- a phase keeps or averages the field of a place
abbrev pub keeps_for : ℕ → Phase → Bool
keeps_for k phase = is_among (added_fields phase) k || is_among phase.averages k

-- some phase of a component does
abbrev pub is_kept_by : Comp → ℕ → Bool
is_kept_by comp k = list_any (keeps_for k) comp.phases

-- how many further fields a phase is carried out in
abbrev pub further_fields : Phase → ℕ
further_fields phase = length phase.averages + length phase.sets + length phase.merges + 1

-- Room of the sizes that a demand asks for.
pub record IsRoomFor (demand : Demand) (room : Room) : Type 0 where
  pub places : length room.places ≡ demand.inputs
  pub inputs : length room.inputs ≡ demand.inputs
  pub scratch : length room.scratch ≡ 128 * demand.strips

-- What the phases and the start of a component are carried out in.
pub record IsSpareFor (comp : Comp) (frame : Frame) (demand : Demand) (spare : Spare) : Type 0 where
  pub fields : AreOnBlock frame (length spare.fields) spare.fields
  pub phases : All (λ phase. further_fields phase ≤ length spare.fields) comp.phases
  pub starts : length (places_started comp.fields) ≤ length spare.fields
  pub cells : length spare.cells ≡ cell_count frame
  pub room : IsRoomFor demand spare.room

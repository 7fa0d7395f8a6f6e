-- A whole phase over a block: what its run asks of it, and what it leaves.
use Rattle.std.specs.Prelude.{◌≢◌, ℕ, ◌<◌, ℤ, List, AllPairs, map}
use Rattle.std.specs.List.{All}
use Rattle.cpl_block.specs.declared.frame.Frame.{Frame}
use Rattle.cpl_comp.specs.Components.{IsMerge}
use Rattle.cpl_comp.specs.Readings.{Reading}
use Rattle.cpl_comp.specs.Worlds.{FieldWorld}
use Rattle.cpl_comp.specs.Writes.{average_write, fields_after, merge_write, set_write}
use Rattle.cpl_comp.specs.declared.component.Phase.{Phase}
use Rattle.cpl_comp.specs.declared.component.SetRow.{SetRow}
use Rattle.cpl_entry.specs.Entries.{NativeEntry}
use Rattle.cpl_mediator.specs.Averages.{RunningSums}
use Rattle.cpl_rule.specs.Inputs.{IsHaloed, arguments_of}
use Rattle.cpl_rule.specs.declared.scene.Scene.{Scene}
use Rattle.cpl_phase.specs.Assignments.{AreRulesOn}
use Rattle.cpl_phase.specs.Kept.{StandForKept}
use Rattle.cpl_phase.specs.Worlds.{AreWritten, HoldFields}

-- what rules read beside the cell is of the halo
abbrev pub AreHaloed : List ℕ → List SetRow → Type 0
AreHaloed halo rows = All (λ row. All (IsHaloed halo) (arguments_of row.rule)) rows

-- A phase that can be carried out: its rules can, it writes and keeps fields of the component alone, and none of these is
-- averaged or kept twice.
pub record IsPhaseOn (scene : Scene) (book : List NativeEntry) (phase : Phase) : Type 0 where
  pub halo : All (λ k. k < scene.fields) phase.halo.fields
  pub sets : AreRulesOn scene book phase.sets
  pub sets_haloed : AreHaloed phase.halo.fields phase.sets
  pub set_targets : All (λ row. row.field < scene.fields) phase.sets
  pub merges : All (IsMerge scene.fields) phase.merges
  pub merge_targets : All (λ row. row.field < scene.fields) phase.merges
  pub adds : AreRulesOn scene book phase.adds
  pub adds_haloed : AreHaloed phase.halo.fields phase.adds
  pub add_targets : All (λ row. row.field < scene.fields) phase.adds
  pub adds_once : AllPairs (λ a b. a ≢ b) (map (λ row. row.field) phase.adds)
  pub averages : All (λ k. k < scene.fields) phase.averages
  pub averages_once : AllPairs (λ a b. a ≢ b) phase.averages

-- The fields of a block, and the running sums, are those of the whole component after a phase.
pub record IsAfter (scene : Scene) (reading : Reading) (world : List FieldWorld) (phase : Phase)
    (news : List (List ℤ)) (running : List RunningSums) : Type 0 where
  pub fields : HoldFields scene.frame scene.fields (fields_after reading world phase) news
  pub kept : StandForKept scene.frame scene.fields (fields_after reading world phase) running

-- Other fields have the values that a phase writes: means, values of rules and merges.
pub record AreNews (frame : Frame) (reading : Reading) (world : List FieldWorld) (phase : Phase)
    (averaged assigned merged : List (List ℤ)) : Type 0 where
  pub averages : AreWritten frame (map (average_write reading.layout world) phase.averages) averaged
  pub sets : AreWritten frame (map (set_write reading) phase.sets) assigned
  pub merges : AreWritten frame (map (merge_write reading) phase.merges) merged

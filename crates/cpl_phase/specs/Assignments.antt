-- Fields with the values of the assignments and the merges of a phase.
use Rattle.std.specs.Prelude.{ℕ, ◌<◌, ℤ, List, length, slice_index_or}
use Rattle.std.specs.List.{All}
use Rattle.cpl_block.specs.declared.frame.Frame.{Frame}
use Rattle.cpl_comp.specs.declared.component.MergeRow.{MergeRow}
use Rattle.cpl_comp.specs.declared.component.SetRow.{SetRow}
use Rattle.cpl_entry.specs.Entries.{NativeEntry}
use Rattle.cpl_sweep.specs.Places.{field_at}
use Rattle.cpl_rule.specs.Assigned.{HasRoom, IsAssigned, IsRuleOn}
use Rattle.cpl_rule.specs.declared.room.Room.{Room}
use Rattle.cpl_rule.specs.Swept.{IsSwept}
use Rattle.cpl_rule.specs.declared.scene.Scene.{Scene}
use Rattle.cpl_phase.specs.Merging.{merge_step}

-- the rules of rows can be carried out
abbrev pub AreRulesOn : Scene → List NativeEntry → List SetRow → Type 0
AreRulesOn scene book rows = All (λ row. IsRuleOn scene book row.rule) rows

-- there is room for each
abbrev pub HaveRoom : Room → List SetRow → Type 0
HaveRoom room rows = All (λ row. HasRoom room row.rule) rows

-- the first so many of other fields have the values of the rules of rows
abbrev pub AreAssignedTo : ℕ → Scene → List NativeEntry → List SetRow → (fields others : List (List ℤ)) → Type 0
AreAssignedTo count scene book rows fields others =
    (j : ℕ) (row : SetRow) → j < count → j < length rows → IsAssigned scene book (slice_index_or rows j row).rule fields (field_at others j)

-- the first of other fields have the values of all
abbrev pub AreAssigned : Scene → List NativeEntry → List SetRow → (fields others : List (List ℤ)) → Type 0
AreAssigned scene book rows fields others = AreAssignedTo (length rows) scene book rows fields others

-- the first so many of other fields have the values of merges
abbrev pub AreMergedTo : ℕ → Frame → List MergeRow → (fields others : List (List ℤ)) → Type 0
AreMergedTo count frame rows fields others =
    (j : ℕ) (row : MergeRow) → j < count → j < length rows
    → IsSwept frame (merge_step frame (slice_index_or rows j row).terms fields) (field_at others j)

-- the first of other fields have the values of all
abbrev pub AreMerged : Frame → List MergeRow → (fields others : List (List ℤ)) → Type 0
AreMerged frame rows fields others = AreMergedTo (length rows) frame rows fields others

-- What assignments and merges leave, as writes.
use Rattle.std.proofs.Common.{◌≡◌, ℕ, suc, ◌<◌, ◌≤◌, List, [], ◌∷◌, ℤ, get_or, length, map, refl, sym, ap, subst, ◌∙◌, arith}
use Rattle.std.proofs.lemmas.List.Elements.{All-head, All-tail}
use Rattle.std.specs.List.{All}
use Rattle.std.specs.Prelude.{slice_index}
use Rattle.cpl_block.specs.Frames.{IsOwn, IsSpot, cell_at, place_at, stands_for}
use Rattle.cpl_block.specs.Laws.{IsFraming}
use Rattle.cpl_block.specs.declared.frame.Frame.{Frame}
use Rattle.cpl_comp.proofs.CellFacts.{over_cells-at}
use Rattle.cpl_comp.specs.Readings.{Reading, rule_value}
use Rattle.cpl_comp.specs.Worlds.{FieldWorld, cell_value, over_cells}
use Rattle.cpl_comp.specs.Writes.{average_write, merge_value, merge_write, set_write}
use Rattle.cpl_comp.specs.Components.{IsMerge, IsTerm}
use Rattle.cpl_comp.specs.declared.component.MergeRow.{MergeRow}
use Rattle.cpl_comp.specs.declared.component.SetRow.{SetRow}
use Rattle.cpl_mediator.specs.Merges.{merge_of}
use Rattle.cpl_rule.proofs.ShownFacts.{own-at}
use Rattle.cpl_rule.proofs.SweptFacts.{own-swept}
use Rattle.cpl_rule.specs.Swept.{IsSwept}
use Rattle.cpl_phase.specs.Merging.{factors_at, merge_step}
use Rattle.cpl_entry.specs.Entries.{NativeEntry}
use Rattle.cpl_grid.specs.Grid.{IsCell}
use Rattle.cpl_grid.specs.Owners.{Layout}
use Rattle.cpl_grid.specs.declared.grid.Grid.{Grid}
use Rattle.cpl_sweep.specs.Places.{field_at}
use Rattle.cpl_rule.specs.Assigned.{IsAssigned, answers_of}
use Rattle.cpl_rule.specs.Inputs.{HoldReading, IsHaloed, arguments_of}
use Rattle.cpl_rule.specs.Moments.{IsAt}
use Rattle.cpl_rule.specs.declared.scene.Scene.{Scene}
use Rattle.cpl_phase.specs.Worlds.{AreWritten, IsWritten}

-- a value at each cell of the grid, at the cells of the block
pub own-over : (frame : Frame) (layout : Layout) (value : ℕ → ℤ) (field : List ℤ) → IsFraming frame → layout.grid ≡ frame.grid
    → IsOwn frame value field → IsOwn frame (cell_value (over_cells layout value)) field
own-over frame layout value field laws same own = λ place within is.
    let P : Grid → Type 0 = λ grid. IsCell grid (stands_for frame place) in
    own place within is ∙ sym (over_cells-at layout value (stands_for frame place) (subst P (sym same) (laws.cell place)))

module _ (scene : Scene) (book : List NativeEntry) (halo : List ℕ) (reading : Reading) (fields : List (List ℤ)) (laws : IsFraming scene.frame)
    (at : IsAt scene.moment scene.frame.grid reading) (entries : reading.entries ≡ answers_of book)
    (held : HoldReading scene.frame scene.fields halo reading fields) where
  -- one assignment
  set-written : (row : SetRow) (other : List ℤ) → All (IsHaloed halo) (arguments_of row.rule) → IsAssigned scene book row.rule fields other
      → IsOwn scene.frame (cell_value (over_cells reading.layout (rule_value reading row.rule))) other
  set-written row other haloed made =
      own-over scene.frame reading.layout (rule_value reading row.rule) other laws at.over (made.own halo reading at entries haloed held)

  -- all of them
  pub sets-written : (rows : List SetRow) (others : List (List ℤ)) → length rows ≤ length others
      → All (λ row. All (IsHaloed halo) (arguments_of row.rule)) rows
      → ((j : ℕ) (row : SetRow) → j < length rows → j < length rows → IsAssigned scene book (get_or rows j row).rule fields (field_at others j))
      → AreWritten scene.frame (map (set_write reading) rows) others
  sets-written [] others many haloed each = tt
  sets-written (row ∷ rows) [] many haloed each = absurd (omega arith)
  sets-written (row ∷ rows) (other ∷ others) many haloed each =
      let Haloed : SetRow → Type 0 = λ row. All (IsHaloed halo) (arguments_of row.rule) in (
        set-written row other (All-head Haloed row rows haloed) (each 0 row (omega arith) (omega arith)),
        sets-written rows others (omega arith) (All-tail Haloed row rows haloed) (λ j r below within. each (suc j) r (omega arith) (omega arith)),
      )

-- ---- merges

module _ (frame : Frame) (count : ℕ) (halo : List ℕ) (reading : Reading) (fields : List (List ℤ)) (laws : IsFraming frame)
    (over : reading.layout.grid ≡ frame.grid) (held : HoldReading frame count halo reading fields) where
  -- the factors at a cell
  factors-held : (terms : List (ℕ × ℕ)) (a b : ℕ) → IsSpot frame a b → All (IsTerm count) terms → map (factors_at fields (place_at frame a b))
      terms ≡ map (λ term. (reading.value term.0 (cell_at frame a b), reading.value term.1 (cell_at frame a b))) terms
  factors-held [] a b spot among = refl
  factors-held (term ∷ terms) a b spot among =
      let here = All-head (IsTerm count) term terms among in
      λ i. (
        own-at frame (reading.value term.0) (field_at fields term.0) a b laws (held.own term.0 here.first) spot i,
        own-at frame (reading.value term.1) (field_at fields term.1) a b laws (held.own term.1 here.second) spot i,
      )
      ∷ factors-held terms a b spot (All-tail (IsTerm count) term terms among) i

  -- one merge
  merge-written : (row : MergeRow) (other : List ℤ) → IsMerge count row → IsSwept frame (merge_step frame row.terms fields) other
      → IsOwn frame (cell_value (over_cells reading.layout (merge_value reading row))) other
  merge-written row other is swept =
      own-over frame reading.layout (merge_value reading row) other laws over
      (own-swept frame (merge_step frame row.terms fields) (merge_value reading row) other laws swept
      (λ a b spot. ap merge_of (factors-held row.terms a b spot is.terms)))

  -- all of them
  pub merges-written : (rows : List MergeRow) (others : List (List ℤ)) → length rows ≤ length others → All (IsMerge count) rows
      → ((j : ℕ) (row : MergeRow) → j < length rows → j < length rows
      → IsSwept frame (merge_step frame (get_or rows j row).terms fields) (field_at others j))
      → AreWritten frame (map (merge_write reading) rows) others
  merges-written [] others many are each = tt
  merges-written (row ∷ rows) [] many are each = absurd (omega arith)
  merges-written (row ∷ rows) (other ∷ others) many are each = (
    merge-written row other (All-head (IsMerge count) row rows are) (each 0 row (omega arith) (omega arith)),
    merges-written rows others (omega arith) (All-tail (IsMerge count) row rows are) (λ j r below within. each (suc j) r (omega arith) (omega arith)),
  )

-- ---- averages

-- all of them
pub averages-written : (frame : Frame) (layout : Layout) (world : List FieldWorld) (places : List ℕ) (others : List (List ℤ))
    → length places ≤ length others
    → ((j : ℕ) → j < length places → IsWritten frame (average_write layout world (slice_index places j)) (field_at others j))
    → AreWritten frame (map (average_write layout world) places) others
averages-written frame layout world [] others many each = tt
averages-written frame layout world (k ∷ places) [] many each = absurd (omega arith)
averages-written frame layout world (k ∷ places) (other ∷ others) many each = (
  each 0 (omega arith),
  averages-written frame layout world places others (omega arith) (λ j below. each (suc j) (omega arith)),
)

-- The faults of a block are those of the whole component at the block's cells.
use Rattle.std.proofs.Common.{◌≡◌, ℕ, ◌+◌, ◌<◌, List, [], ◌∷◌, ◌++◌, ℤ, pos, get_or, refl, sym, ap, ◌∙◌}
use Rattle.std.proofs.lemmas.List.{get_or-map}
use Rattle.std.proofs.lemmas.List.Elements.{All-head, All-tail}
use Rattle.std.specs.List.{All, enumerate_from, flat_map}
use Rattle.cpl_block.specs.Frames.{home_of, value_at}
use Rattle.cpl_block.specs.declared.frame.Frame.{Frame}
use Rattle.cpl_comp.specs.RunFaults.{cell_faults, range_fault}
use Rattle.cpl_comp.specs.Worlds.{FieldWorld, cell_value, field_at as world_at, field_value}
use Rattle.cpl_comp.specs.declared.component.RangeRow.{RangeRow}
use Rattle.cpl_grid.specs.Parts.{cells_of_part}
use Rattle.cpl_sweep.specs.Places.{field_at}
use Rattle.cpl_phase.specs.Checks.{block_faults, place_faults, value_fault}
use Rattle.cpl_phase.specs.Worlds.{HoldFields}

module _ (frame : Frame) (count : ℕ) (world : List FieldWorld) (fields : List (List ℤ)) (hold : HoldFields frame count world fields) where
  -- a cell whose values stand at its place
  HasValues : ℕ → Type 0
  HasValues s = (k : ℕ) → k < count → value_at (field_at fields k) (home_of frame s) ≡ field_value world k s

  -- each cell of the block
  have-values : All HasValues (cells_of_part frame.grid frame.part)
  unfolding HasValues
  have-values i d inside k below =
      let cells = cells_of_part frame.grid frame.part in
      sym (get_or-map (λ s. value_at (field_at fields k) (home_of frame s)) cells i d (pos 0) inside)
      ∙ ap (λ xs. get_or xs i (pos 0)) (hold.values k below)
      ∙ get_or-map (cell_value (world_at world k).values) cells i d (pos 0) inside

  -- the faults at a cell
  same-faults : (s n : ℕ) (rows : List RangeRow) → HasValues s → All (λ row. row.field < count) rows
      → flat_map (λ numbered. value_fault s (value_at (field_at fields numbered.1.field) (home_of frame s)) numbered)
      (enumerate_from n rows) ≡ flat_map (range_fault world s) (enumerate_from n rows)
  unfolding HasValues
  same-faults s n [] values below = refl
  same-faults s n (row ∷ rows) values below =
      let Below : RangeRow → Type 0 = λ row. row.field < count in
      let here = values row.field (All-head Below row rows below) in
      λ i. value_fault s (here i) (n, row) ++ same-faults s (n + 1) rows values (All-tail Below row rows below) i

  -- those at cells
  same-cells : (rows : List RangeRow) (cells : List ℕ) → All (λ row. row.field < count) rows → All HasValues cells
      → flat_map (λ s. place_faults fields rows (home_of frame s) s) cells ≡ flat_map (cell_faults world rows) cells
  same-cells rows [] below each = refl
  same-cells rows (s ∷ cells) below each =
      λ i. same-faults s 0 rows (All-head HasValues s cells each) below i ++ same-cells rows cells below (All-tail HasValues s cells each) i

  pub same-block : (rows : List RangeRow) → All (λ row. row.field < count) rows
      → block_faults frame fields rows ≡ flat_map (cell_faults world rows) (cells_of_part frame.grid frame.part)
  same-block rows below = same-cells rows (cells_of_part frame.grid frame.part) below have-values

-- The values of a block, row by row.
use Rattle.std.proofs.Common.{◌≡◌, ℕ, ◌+◌, ◌*◌, ◌<◌, List, ℤ, pos, get_or, length, map, ap, ◌∙◌, arith}
use Rattle.cpl_grid.specs.Grid.{IsNumbering}
use Rattle.cpl_grid.specs.Parts.{cells_of_part, part_cell, part_row}
use Rattle.cpl_block.specs.Frames.{IsFrame, IsSpot, cell_at, first_of, home_of, place_at, places_in, row_length, value_at}
use Rattle.cpl_block.specs.Laws.{IsInRows, row_at_places}
use Rattle.cpl_block.specs.declared.frame.Frame.{Frame}
use Rattle.cpl_block.proofs.FrameFacts.{home_is}
use Rattle.cpl_block.proofs.ListFacts.{map-rows, map-run}
use Rattle.cpl_block.proofs.SizeFacts.{row-few}

-- the values in one row of the block are a run of the field
one_row : (frame : Frame) → IsFrame frame → IsNumbering frame.grid → (field : List ℤ) → length field ≡ places_in frame → (b : ℕ) → b < frame.part.rows.length → map (λ s. value_at field (home_of frame s)) (part_row frame.grid frame.part b) ≡ row_at_places frame field b
one_row frame is numbering field long b below =
    let start = first_of frame (pos 0) (pos 0) + b * row_length frame in
    let first = part_cell frame.grid frame.part 0 b in
    let each : (i : ℕ) → i < frame.part.columns.length → value_at field (home_of frame (first + i)) ≡ get_or field (start + i) (pos 0) = λ i left.
    let spot : IsSpot frame i b = record { column = left; row = below } in
    let cell : first + i ≡ cell_at frame i b = omega arith in
    let place : place_at frame i b ≡ start + i = omega arith in
    ap (λ s. value_at field (home_of frame s)) cell
    ∙ ap (value_at field) (home_is frame is numbering i b spot)
    ∙ ap (value_at field) place in
    let few = row-few frame b is below in
    map-run (λ s. value_at field (home_of frame s)) field first start frame.part.columns.length each (omega (arith, few, long))

-- the values of a block are its rows, end to end
pub in-rows : (frame : Frame) → IsFrame frame → IsNumbering frame.grid → IsInRows frame
unfolding cells_of_part
in-rows frame is numbering field long =
    map-rows (λ s. value_at field (home_of frame s)) (part_row frame.grid frame.part) (row_at_places frame field) 0 frame.part.rows.length (λ b from to. one_row frame is numbering field long b (omega arith))

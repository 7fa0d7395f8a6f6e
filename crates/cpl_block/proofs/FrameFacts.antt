-- The places of a block and its ring, and the cells that they stand for.
use Rattle.std.proofs.Common.{◌≡◌, ℕ, ◌+◌, ◌-◌, ◌*◌, ◌/◌, ◌%◌, ◌^◌, ◌<◌, ◌≤◌, Bool, true, ◌&&◌, List, ℤ, pos, ◌+ℤ◌, ◌-ℤ◌, get_or, map, refl, sym, ap, subst, ◌∙◌, arith, false, inl, inr, ◌↔◌}
use Rattle.std.proofs.lemmas.Bool.{and_parts, cases_Bool, le-leb, leb-true, lt-ltb, ltb-true}
use Rattle.std.proofs.lemmas.Int.{ints}
use Rattle.std.proofs.lemmas.List.{get_or-map}
use Rattle.std.proofs.lemmas.Nat.{div-add-mod', div-mul-add, mod-mul-add}
use Rattle.std.proofs.lemmas.Option.{get_or_from_slice_get, slice_get_within}
use Rattle.std.specs.List.{All}
use Rattle.std.specs.Prelude.{unsigned_abs}
use Rattle.cpl_grid.specs.Grid.{IsCell, IsColumn, IsNumbering, IsRow, column_at, column_of, index_of, indices, neighbour_of, row_at, row_of}
use Rattle.cpl_grid.specs.Parts.{IsInPart, ListsPart, cells_of_part, part_cell, part_row, whole_part}
use Rattle.cpl_grid.specs.declared.blocks.Part.{Part}
use Rattle.cpl_grid.specs.declared.grid.Grid.{Grid}
use Rattle.cpl_grid.proofs.RangeFacts.{All-range}
use Rattle.cpl_block.specs.Frames.{IsFrame, IsOwn, IsReached, IsSpot, cell_at, first_of, home_of, is_among, is_ours, is_own, place_at, places_in, row_length, stands_for, step_to, value_at, values_in}
use Rattle.cpl_block.specs.Laws.{IsAlone, IsCellOfBlock, IsFraming, IsHome, IsPlaceOfBlock}
use Rattle.cpl_block.specs.Rings.{is_far}
use Rattle.cpl_block.specs.declared.frame.Frame.{Frame}
use Rattle.cpl_block.proofs.ListFacts.{All-rows, map-same}
use Rattle.cpl_block.proofs.SizeFacts.{ends-places, few-places, joined, reach-none, shift-of, steps-within, within-places}

-- the test of a number among others, from its bounds and back
among-is : (start count k : ℕ) → start ≤ k → k < start + count → is_among start count k ≡ true
among-is start count k from to = rw (le-leb start k from, lt-ltb k (start + count) to) refl

record IsAmong (start count k : ℕ) : Type 0 where
  from : start ≤ k
  to : k < start + count

among-of : (start count k : ℕ) → is_among start count k ≡ true → IsAmong start count k
among-of start count k is =
    let parts = and_parts _ _ is in
    record { from = leb-true start k parts.0; to = ltb-true k (start + count) parts.1 }

both-are : (x y : Bool) → x ≡ true → y ≡ true → (x && y) ≡ true
both-are x y x_is y_is = rw (x_is, y_is) refl

-- the column and the row of a spot are the grid's
record IsAt (frame : Frame) (a b : ℕ) : Type 0 where
  column : column_of frame.grid (cell_at frame a b) ≡ frame.part.columns.start + a + 1
  row : row_of frame.grid (cell_at frame a b) ≡ frame.part.rows.start + b + 1
  column_here : column_at frame.grid (pos (frame.part.columns.start + a + 1)) ≡ frame.part.columns.start + a + 1
  row_here : row_at frame.grid (pos (frame.part.rows.start + b + 1)) ≡ frame.part.rows.start + b + 1

at-spot : (frame : Frame) (a b : ℕ) → IsFrame frame → IsNumbering frame.grid → IsSpot frame a b → IsAt frame a b
at-spot frame a b is numbering spot =
    let left = spot.column in
    let up = spot.row in
    let columns = is.part.columns in
    let rows = is.part.rows in
    let i = frame.part.columns.start + a + 1 in
    let j = frame.part.rows.start + b + 1 in
    let column : IsColumn frame.grid i = record { from_one = omega arith; within = omega arith } in
    let row : IsRow frame.grid j = record { from_one = omega arith; within = omega arith } in
    record {
      column = numbering.column_again i j column row;
      row = numbering.row_again i j column row;
      column_here = numbering.column_here i column;
      row_here = numbering.row_here j row;
    }

-- what a place in row j and column i stands for, both counted from 0 with the ring
stands_at : (frame : Frame) (i j : ℕ) → i < row_length frame → stands_for frame (j * row_length frame + i) ≡ index_of frame.grid (column_at frame.grid (pos (frame.part.columns.start + 1 + i) -ℤ pos frame.rx)) (row_at frame.grid (pos (frame.part.rows.start + 1 + j) -ℤ pos frame.ry))
unfolding stands_for
stands_at frame i j inside =
    rw (mod-mul-add j (row_length frame) i inside, div-mul-add j (row_length frame) i inside) refl

-- the neighbour of a cell, by its column and its row
neighbour_at : (grid : Grid) (s i j : ℕ) (dx dy : ℤ) → column_of grid s ≡ i → row_of grid s ≡ j → neighbour_of grid s dx dy ≡ index_of grid (column_at grid (pos i +ℤ dx)) (row_at grid (pos j +ℤ dy))
unfolding neighbour_of
neighbour_at grid s i j dx dy column row =
    λ k. index_of grid (column_at grid (pos (column k) +ℤ dx)) (row_at grid (pos (row k) +ℤ dy))

-- counted from the ring's edge or from the cell, a column is the same
counted_alike : (start a ring v : ℕ) (z : ℤ) → pos v ≡ pos ring +ℤ z → pos (start + 1 + (v + a)) -ℤ pos ring ≡ pos (start + a + 1) +ℤ z
counted_alike start a ring v z is = omega (arith, ints, is)

-- a place at a constant shift from a cell's own stands for the neighbour
reaches-all : (frame : Frame) → IsFrame frame → IsNumbering frame.grid → (a b : ℕ) (dx dy : ℤ) → IsSpot frame a b → IsReached frame dx dy → stands_for frame (first_of frame dx dy + step_to frame a b) ≡ neighbour_of frame.grid (cell_at frame a b) dx dy
reaches-all frame is numbering a b dx dy spot reach =
    let across = shift-of frame.rx dx reach.across in
    let down = shift-of frame.ry dy reach.down in
    let few = across.few in
    let left = spot.column in
    let at = at-spot frame a b is numbering spot in
    let u = unsigned_abs (pos frame.ry +ℤ dy) in
    let v = unsigned_abs (pos frame.rx +ℤ dx) in
    let inside : v + a < row_length frame = omega arith in
    let column = counted_alike frame.part.columns.start a frame.rx v dx across.is in
    let row = counted_alike frame.part.rows.start b frame.ry u dy down.is in
    ap (stands_for frame) (joined u v (row_length frame) a b)
    ∙ stands_at frame (v + a) (u + b) inside
    ∙ (λ k. index_of frame.grid (column_at frame.grid (column k)) (row_at frame.grid (row k)))
    ∙ sym (neighbour_at frame.grid (cell_at frame a b) (frame.part.columns.start + a + 1) (frame.part.rows.start + b + 1) dx dy at.column at.row)

-- the place of a cell is its home
stands_here : (frame : Frame) → IsFrame frame → IsNumbering frame.grid → (a b : ℕ) → IsSpot frame a b → stands_for frame (place_at frame a b) ≡ cell_at frame a b
stands_here frame is numbering a b spot =
    let at = at-spot frame a b is numbering spot in
    let i = frame.part.columns.start + a + 1 in
    let j = frame.part.rows.start + b + 1 in
    let i_same : i + 0 ≡ i = omega arith in
    let j_same : j + 0 ≡ j = omega arith in
    reaches-all frame is numbering a b (pos 0) (pos 0) spot (reach-none frame)
    ∙ neighbour_at frame.grid (cell_at frame a b) i j (pos 0) (pos 0) at.column at.row
    ∙ (λ k. index_of frame.grid (column_at frame.grid (pos (i_same k))) (row_at frame.grid (pos (j_same k))))
    ∙ (λ k. index_of frame.grid (at.column_here k) (at.row_here k))

-- and is one of the block's
own_here : (frame : Frame) (a b : ℕ) → IsSpot frame a b → is_own frame (place_at frame a b) ≡ true
unfolding is_own
own_here frame a b spot =
    let left = spot.column in
    let up = spot.row in
    let row = row_length frame in
    let i = frame.rx + 0 + a in
    let j = frame.ry + 0 + b in
    let inside : i < row = omega arith in
    let column : place_at frame a b % row ≡ i = ap (λ k. k % row) (joined (frame.ry + 0) (frame.rx + 0) row a b) ∙ mod-mul-add j row i inside in
    let line : place_at frame a b / row ≡ j = ap (λ k. k / row) (joined (frame.ry + 0) (frame.rx + 0) row a b) ∙ div-mul-add j row i inside in
    both-are _ _
    (ap (is_among frame.rx frame.part.columns.length) column ∙ among-is frame.rx frame.part.columns.length i (omega arith) (omega arith))
    (ap (is_among frame.ry frame.part.rows.length) line ∙ among-is frame.ry frame.part.rows.length j (omega arith) (omega arith))

home_here : (frame : Frame) → IsFrame frame → IsNumbering frame.grid → (a b : ℕ) → IsSpot frame a b → IsHome frame (cell_at frame a b) (place_at frame a b)
home_here frame is numbering a b spot = record {
  within = within-places frame a b (pos 0) (pos 0) spot (reach-none frame);
  own = own_here frame a b spot;
  stands = stands_here frame is numbering a b spot;
}

-- a place of the block, in numbers
place_again : (place row q r rx ry a b : ℕ) → q * row + r ≡ place → q ≡ ry + b → r ≡ rx + a → place ≡ (ry + 0) * row + (rx + 0) + (b * row + a)
place_again place row q r rx ry a b parts q_is r_is =
    let rows : q * row ≡ (ry + b) * row = ap (λ k. k * row) q_is in
    omega arith

-- a place of the block is that of a cell
own_place : (frame : Frame) (place : ℕ) → is_own frame place ≡ true → IsPlaceOfBlock frame place
unfolding is_own
own_place frame place own =
    let parts = and_parts _ _ own in
    let row = row_length frame in
    let column = among-of frame.rx frame.part.columns.length (place % row) parts.0 in
    let line = among-of frame.ry frame.part.rows.length (place / row) parts.1 in
    let column_from = column.from in
    let column_to = column.to in
    let line_from = line.from in
    let line_to = line.to in
    let a = place % row - frame.rx in
    let b = place / row - frame.ry in
    record {
      a = a;
      b = b;
      spot = record { column = omega arith; row = omega arith };
      is = place_again place row (place / row) (place % row) frame.rx frame.ry a b (div-add-mod' place row) (omega arith) (omega arith);
    }

-- what a place stands for is a cell
stands-cell : (frame : Frame) → IsNumbering frame.grid → (place : ℕ) → IsCell frame.grid (stands_for frame place)
unfolding stands_for
stands-cell frame numbering place = numbering.cell _ _ (numbering.column_within _) (numbering.row_within _)

-- a cell of the block is its own
ours_here : (frame : Frame) → IsFrame frame → IsNumbering frame.grid → (a b : ℕ) → IsSpot frame a b → is_ours frame (cell_at frame a b) ≡ true
unfolding is_ours
ours_here frame is numbering a b spot =
    let left = spot.column in
    let up = spot.row in
    let at = at-spot frame a b is numbering spot in
    let i = frame.part.columns.start in
    let j = frame.part.rows.start in
    both-are _ _
    (ap (λ k. is_among i frame.part.columns.length (k - 1)) at.column ∙ among-is i frame.part.columns.length (i + a + 1 - 1) (omega arith) (omega arith))
    (ap (λ k. is_among j frame.part.rows.length (k - 1)) at.row ∙ among-is j frame.part.rows.length (j + b + 1 - 1) (omega arith) (omega arith))

-- the block's own cells are those in its columns and its rows
ours-part : (frame : Frame) (s : ℕ) → (is_ours frame s ≡ true) ↔ IsInPart frame.grid frame.part s
unfolding is_ours
ours-part frame s =
    let i = frame.part.columns.start in
    let j = frame.part.rows.start in (
      λ ours.
          let parts = and_parts _ _ ours in
          let column = among-of i frame.part.columns.length (column_of frame.grid s - 1) parts.0 in
          let line = among-of j frame.part.rows.length (row_of frame.grid s - 1) parts.1 in
          record {
            column = record { from_start = column.from; before_end = column.to };
            row = record { from_start = line.from; before_end = line.to };
          },
      λ within. both-are _ _
          (among-is i frame.part.columns.length (column_of frame.grid s - 1) within.column.from_start within.column.before_end)
          (among-is j frame.part.rows.length (row_of frame.grid s - 1) within.row.from_start within.row.before_end),
    )

-- one of the block's own is in a column and a row of it
pub owner-of : (frame : Frame) → IsNumbering frame.grid → (s : ℕ) → IsCell frame.grid s → is_ours frame s ≡ true → IsCellOfBlock frame s
unfolding is_ours
owner-of frame numbering s cell ours =
    let parts = and_parts _ _ ours in
    let i = frame.part.columns.start in
    let j = frame.part.rows.start in
    let column = among-of i frame.part.columns.length (column_of frame.grid s - 1) parts.0 in
    let line = among-of j frame.part.rows.length (row_of frame.grid s - 1) parts.1 in
    let column_from = column.from in
    let column_to = column.to in
    let line_from = line.from in
    let line_to = line.to in
    let a = column_of frame.grid s - 1 - i in
    let b = row_of frame.grid s - 1 - j in
    let a_is : column_of frame.grid s ≡ i + a + 1 = omega arith in
    let b_is : row_of frame.grid s ≡ j + b + 1 = omega arith in
    record {
      a = a;
      b = b;
      spot = record { column = omega arith; row = omega arith };
      is = sym (numbering.index_again s cell) ∙ (λ k. index_of frame.grid (a_is k) (b_is k));
    }

-- the home of a cell in a column and a row is the place there
pub home_is : (frame : Frame) → IsFrame frame → IsNumbering frame.grid → (a b : ℕ) → IsSpot frame a b → home_of frame (cell_at frame a b) ≡ place_at frame a b
unfolding home_of
home_is frame is numbering a b spot =
    let at = at-spot frame a b is numbering spot in
    let i = frame.part.columns.start in
    let j = frame.part.rows.start in
    let a_is : i + a + 1 - 1 - i ≡ a = omega arith in
    let b_is : j + b + 1 - 1 - j ≡ b = omega arith in
    (λ k. place_at frame (at.column k - 1 - i) (at.row k - 1 - j)) ∙ (λ k. place_at frame (a_is k) (b_is k))

-- the home of one of the block's own
pub homes-all : (frame : Frame) → IsFrame frame → IsNumbering frame.grid → (s : ℕ) → IsCell frame.grid s → is_ours frame s ≡ true → IsHome frame s (home_of frame s)
homes-all frame is numbering s cell ours =
    let owner = owner-of frame numbering s cell ours in
    let here = home_here frame is numbering owner.a owner.b owner.spot in
    let home = ap (home_of frame) owner.is ∙ home_is frame is numbering owner.a owner.b owner.spot in
    let P : ℕ → Type 0 = λ place. IsHome frame s place in
    let Q : ℕ → Type 0 = λ t. IsHome frame t (place_at frame owner.a owner.b) in
    subst P (sym home) (subst Q (sym owner.is) here)

-- each cell of the list is in a column and a row of the block
each_cell : (frame : Frame) → All (IsCellOfBlock frame) (cells_of_part frame.grid frame.part)
unfolding cells_of_part
each_cell frame =
    let w = frame.part.columns.length in
    let h = frame.part.rows.length in
    All-rows (IsCellOfBlock frame) (part_row frame.grid frame.part) 0 h (λ j from to.
    All-range (IsCellOfBlock frame) (part_cell frame.grid frame.part 0 j) w (λ s above below.
    let a = s - part_cell frame.grid frame.part 0 j in
    record { a = a; b = j; spot = record { column = omega arith; row = omega arith }; is = omega arith }))

-- what the lists of values stand on
record HasHomes (frame : Frame) : Type 0 where
  here : (a b : ℕ) → IsSpot frame a b → IsHome frame (cell_at frame a b) (place_at frame a b)
  home : (a b : ℕ) → IsSpot frame a b → home_of frame (cell_at frame a b) ≡ place_at frame a b

-- the values of the cells, where the places hold them
listed-all : (frame : Frame) → HasHomes frame → (value : ℕ → ℤ) (field : List ℤ) → IsOwn frame value field → values_in frame field ≡ map value (cells_of_part frame.grid frame.part)
listed-all frame needs value field own =
    let same : (s : ℕ) → IsCellOfBlock frame s → value_at field (home_of frame s) ≡ value s = λ s cell.
    let here = needs.here cell.a cell.b cell.spot in
    let home = ap (home_of frame) cell.is ∙ needs.home cell.a cell.b cell.spot in
    ap (value_at field) home ∙ own (place_at frame cell.a cell.b) here.within here.own ∙ ap value (here.stands ∙ sym cell.is) in
    map-same (IsCellOfBlock frame) (λ s. value_at field (home_of frame s)) value same (cells_of_part frame.grid frame.part) (each_cell frame)

-- and back
held-all : (frame : Frame) → HasHomes frame → ListsPart (cells_of_part frame.grid frame.part) frame.grid frame.part → (value : ℕ → ℤ) (field : List ℤ) → values_in frame field ≡ map value (cells_of_part frame.grid frame.part) → IsOwn frame value field
held-all frame needs lists value field same place within own =
    let cells = cells_of_part frame.grid frame.part in
    let F : ℕ → ℤ = λ s. value_at field (home_of frame s) in
    let block = own_place frame place own in
    let a = block.a in
    let b = block.b in
    let spot = block.spot in
    let here = needs.here a b spot in
    let k = a + b * frame.part.columns.length in
    let there = lists.places a b spot.column spot.row in
    let inside = slice_get_within cells k (cell_at frame a b) there in
    let is : get_or cells k 0 ≡ cell_at frame a b = get_or_from_slice_get cells k (cell_at frame a b) 0 there in
    ap (value_at field) (block.is ∙ sym (needs.home a b spot))
    ∙ ap F (sym is)
    ∙ sym (get_or-map F cells k 0 (pos 0) inside)
    ∙ ap (λ xs. get_or xs k (pos 0)) same
    ∙ get_or-map value cells k 0 (pos 0) inside
    ∙ ap value (is ∙ sym here.stands ∙ ap (stands_for frame) (sym block.is))

-- how places and cells belong together
pub framing : (frame : Frame) → IsFrame frame → IsNumbering frame.grid → ListsPart (cells_of_part frame.grid frame.part) frame.grid frame.part → IsFraming frame
framing frame is numbering lists =
    let needs : HasHomes frame = record { here = home_here frame is numbering; home = home_is frame is numbering } in
    record {
      reaches = reaches-all frame is numbering;
      within = within-places frame;
      ends = λ dx dy. ends-places frame dx dy is;
      steps = steps-within frame;
      few = few-places frame is;
      here = home_here frame is numbering;
      own = λ place within. own_place frame place;
      cell = stands-cell frame numbering;
      ours = ours_here frame is numbering;
      owner = owner-of frame numbering;
      part = ours-part frame;
      home = home_is frame is numbering;
      homes = homes-all frame is numbering;
      listed = listed-all frame needs;
      held = held-all frame needs lists;
    }

-- a block that has all cells
ours_whole : (frame : Frame) → IsNumbering frame.grid → (part : Part) → frame.part ≡ part → part ≡ whole_part frame.grid → (s : ℕ) → IsCell frame.grid s → is_ours frame s ≡ true
unfolding is_ours
ours_whole frame numbering part is whole s cell =
    let column = numbering.column s cell in
    let row = numbering.row s cell in
    let column_from = column.from_one in
    let column_to = column.within in
    let row_from = row.from_one in
    let row_to = row.within in
    let all : frame.part ≡ whole_part frame.grid = is ∙ whole in
    rw all (both-are _ _
    (among-is 0 frame.grid.nx (column_of frame.grid s - 1) (omega arith) (omega arith))
    (among-is 0 frame.grid.ny (row_of frame.grid s - 1) (omega arith) (omega arith)))

-- no place waits for a parcel where each cell is the block's own
far_none : (frame : Frame) → IsNumbering frame.grid → ((s : ℕ) → IsCell frame.grid s → is_ours frame s ≡ true) → (place : ℕ) → is_far frame place ≡ false
unfolding is_far
far_none frame numbering ours place =
    let one : is_ours frame (stands_for frame place) ≡ true = ours (stands_for frame place) (stands-cell frame numbering place) in
    elim (cases_Bool (is_own frame place)) [
      | inl own ↦ rw own refl
      | inr other ↦ rw (other, one) refl
    ]

pub alone : (frame : Frame) → IsNumbering frame.grid → frame.part ≡ whole_part frame.grid → cells_of_part frame.grid (whole_part frame.grid) ≡ indices frame.grid → IsAlone frame
alone frame numbering whole cells = record {
  cells = ap (cells_of_part frame.grid) whole ∙ cells;
  ours = ours_whole frame numbering frame.part refl whole;
  far = far_none frame numbering (ours_whole frame numbering frame.part refl whole);
}

-- a cell of the block, in the numbers of the code
pub record IsInside (frame : Frame) (s : ℕ) : Type 0 where
  pub left : frame.part.columns.start ≤ (s - 1) % frame.grid.nx
  pub up : frame.part.rows.start ≤ (s - 1) / frame.grid.nx
  pub spot : IsSpot frame ((s - 1) % frame.grid.nx - frame.part.columns.start) ((s - 1) / frame.grid.nx - frame.part.rows.start)
  pub within : ((s - 1) / frame.grid.nx - frame.part.rows.start + frame.ry) * row_length frame + ((s - 1) % frame.grid.nx - frame.part.columns.start) + frame.rx < places_in frame
  pub few : places_in frame ≤ 2 ^ 24
  pub is : ((s - 1) / frame.grid.nx - frame.part.rows.start + frame.ry) * row_length frame + ((s - 1) % frame.grid.nx - frame.part.columns.start) + frame.rx ≡ home_of frame s

-- a place, in the numbers of the code
place_number : (b a row rx ry : ℕ) → (b + ry) * row + a + rx ≡ (ry + 0) * row + (rx + 0) + (b * row + a)
place_number b a row rx ry = omega arith

-- the home, in the numbers of the code
home_number : (frame : Frame) (s q r : ℕ) → column_of frame.grid s ≡ r + 1 → row_of frame.grid s ≡ q + 1 → (q - frame.part.rows.start + frame.ry) * row_length frame + (r - frame.part.columns.start) + frame.rx ≡ home_of frame s
unfolding home_of
home_number frame s q r column row =
    let i = frame.part.columns.start in
    let j = frame.part.rows.start in
    let r_is : r + 1 - 1 - i ≡ r - i = omega arith in
    let q_is : q + 1 - 1 - j ≡ q - j = omega arith in
    let place : (q - j + frame.ry) * row_length frame + (r - i) + frame.rx ≡ place_at frame (r - i) (q - j) = place_number (q - j) (r - i) (row_length frame) frame.rx frame.ry in
    place ∙ sym ((λ k. place_at frame (column k - 1 - i) (row k - 1 - j)) ∙ (λ k. place_at frame (r_is k) (q_is k)))

pub inside-of : (frame : Frame) (s : ℕ) → IsFrame frame → is_ours frame s ≡ true → IsInside frame s
unfolding is_ours
inside-of frame s is ours =
    let parts = and_parts _ _ ours in
    let i = frame.part.columns.start in
    let j = frame.part.rows.start in
    let r = (s - 1) % frame.grid.nx in
    let q = (s - 1) / frame.grid.nx in
    let column = among-of i frame.part.columns.length (r + 1 - 1) parts.0 in
    let line = among-of j frame.part.rows.length (q + 1 - 1) parts.1 in
    let column_from = column.from in
    let column_to = column.to in
    let line_from = line.from in
    let line_to = line.to in
    let spot : IsSpot frame (r - i) (q - j) = record { column = omega arith; row = omega arith } in
    let within = within-places frame (r - i) (q - j) (pos 0) (pos 0) spot (reach-none frame) in
    record {
      left = omega arith;
      up = omega arith;
      spot = spot;
      within = rw (place_number (q - j) (r - i) (row_length frame) frame.rx frame.ry) within;
      few = few-places frame is;
      is = home_number frame s q r refl refl;
    }

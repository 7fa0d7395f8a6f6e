-- The sequence indices of cells, their columns and rows, and their neighbours.
use Rattle.std.proofs.Common.{◌≡◌, ℕ, ◌+◌, ◌-◌, ◌*◌, ◌/◌, ◌%◌, ◌<◌, ◌≤◌, true, false, cond, ℤ, pos, negsuc, ◌+ℤ◌, ◌-ℤ◌, refl, ap, ◌∙◌, arith}
use Rattle.std.specs.Prelude.{unsigned_abs}
use Rattle.std.specs.Int.{int_rem_euclid}
use Rattle.std.proofs.lemmas.Int.{clamps, ints}
use Rattle.std.proofs.lemmas.Nat.{div-add-mod', div-mul-add, div_below, mod-mul-add, mod_below, mul-add-lt}
use Rattle.cpl_grid.specs.Grid.{IsCell, IsColumn, IsGrid, IsNumbering, IsRow, column_at, column_of, index_of, nearest_number, neighbour_of, ring_number, row_at, row_of}
use Rattle.cpl_grid.specs.declared.grid.Grid.{Grid}

-- the nearest of the numbers from 1 to n is one of them
record IsNumber (n k : ℕ) : Type 0 where
  from_one : 1 ≤ k
  within : k ≤ n

nearest_number-is : (n : ℕ) (z : ℤ) → 1 ≤ n → IsNumber n (nearest_number n z)
unfolding nearest_number
nearest_number-is n z some = record { from_one = omega (arith, ints, clamps); within = omega (arith, ints, clamps) }

-- of one of them it is that number
nearest_number-same : (n i : ℕ) → 1 ≤ i → i ≤ n → nearest_number n (pos i) ≡ i
unfolding nearest_number
nearest_number-same n i from to = omega (arith, ints, clamps)

-- a remainder is below its divisor
rem_euclid-below : (z : ℤ) (n : ℕ) → 1 ≤ n → unsigned_abs (int_rem_euclid z (pos n)) < n
rem_euclid-below (pos a) n some = mod_below a n some
rem_euclid-below (negsuc a) n some = omega arith

-- the number on a ring is one of the ring's
ring_number-is : (n : ℕ) (z : ℤ) → 1 ≤ n → IsNumber n (ring_number n z)
unfolding ring_number
ring_number-is n z some =
    let below = rem_euclid-below (z -ℤ pos 1) n some in
    record { from_one = omega arith; within = omega arith }

-- of one of the ring's it is that number
ring_number-same : (n i : ℕ) → 1 ≤ i → i ≤ n → ring_number n (pos i) ≡ i
unfolding ring_number
ring_number-same n i from to =
    let before : pos i -ℤ pos 1 ≡ pos (i - 1) = omega (arith, ints) in
    let place : i - 1 ≡ 0 * n + (i - 1) = omega arith in
    let rest : (i - 1) % n ≡ i - 1 = ap (λ k. k % n) place ∙ mod-mul-add 0 n (i - 1) (omega arith) in
    rw (before, rest) (omega arith)

-- what a number comes to is a column
column_at-column : (grid : Grid) (z : ℤ) → IsGrid grid → IsColumn grid (column_at grid z)
unfolding column_at
column_at-column grid z is =
    elim grid.periodic as (λ b. IsColumn grid (cond b (ring_number grid.nx z) (nearest_number grid.nx z))) [
      | true ↦ let number = ring_number-is grid.nx z is.columns in record { from_one = number.from_one; within = number.within }
      | false ↦ let number = nearest_number-is grid.nx z is.columns in record { from_one = number.from_one; within = number.within }
    ]

-- a column is itself
column_at-same : (grid : Grid) (i : ℕ) → IsColumn grid i → column_at grid (pos i) ≡ i
unfolding column_at
column_at-same grid i column =
    elim grid.periodic as (λ b. cond b (ring_number grid.nx (pos i)) (nearest_number grid.nx (pos i)) ≡ i) [
      | true ↦ ring_number-same grid.nx i column.from_one column.within
      | false ↦ nearest_number-same grid.nx i column.from_one column.within
    ]

-- what a number comes to is a row
row_at-row : (grid : Grid) (z : ℤ) → IsGrid grid → IsRow grid (row_at grid z)
unfolding row_at
row_at-row grid z is =
    let number = nearest_number-is grid.ny z is.rows in
    record { from_one = number.from_one; within = number.within }

-- a row is itself
row_at-same : (grid : Grid) (j : ℕ) → IsRow grid j → row_at grid (pos j) ≡ j
unfolding row_at
row_at-same grid j row = nearest_number-same grid.ny j row.from_one row.within

-- a column and a row have a cell
pub index_of-cell : (grid : Grid) (i j : ℕ) → IsColumn grid i → IsRow grid j → IsCell grid (index_of grid i j)
index_of-cell grid i j column row =
    let left = column.from_one in
    let right = column.within in
    let above = row.from_one in
    let below = row.within in
    let last = mul-add-lt (j - 1) grid.nx (i - 1) grid.ny (omega arith) (omega arith) in
    record { from_one = omega arith; within = omega arith }

-- the column of a cell is one of the grid's
pub column_of-column : (grid : Grid) (s : ℕ) → IsGrid grid → IsColumn grid (column_of grid s)
column_of-column grid s is =
    let below = mod_below (s - 1) grid.nx is.columns in
    record { from_one = omega arith; within = omega arith }

-- and so is its row
pub row_of-row : (grid : Grid) (s : ℕ) → IsGrid grid → IsCell grid s → IsRow grid (row_of grid s)
row_of-row grid s is cell =
    let from = cell.from_one in
    let to = cell.within in
    let short : s - 1 < grid.ny * grid.nx = omega arith in
    let below = div_below (s - 1) grid.nx grid.ny is.columns short in
    record { from_one = omega arith; within = omega arith }

-- the cell in the column and the row of a cell is that cell
pub index_of-again : (grid : Grid) (s : ℕ) → IsCell grid s → index_of grid (column_of grid s) (row_of grid s) ≡ s
index_of-again grid s cell =
    let from = cell.from_one in
    let row : (s - 1) / grid.nx + 1 - 1 ≡ (s - 1) / grid.nx = omega arith in
    let parts = div-add-mod' (s - 1) grid.nx in
    rw row (omega arith)

-- the place of the cell in column i and row j
place_of-index : (grid : Grid) (i j : ℕ) → 1 ≤ i → index_of grid i j - 1 ≡ (j - 1) * grid.nx + (i - 1)
place_of-index grid i j from = omega arith

-- the column of the cell in column i
pub column_of-index : (grid : Grid) (i j : ℕ) → IsColumn grid i → column_of grid (index_of grid i j) ≡ i
column_of-index grid i j column =
    let from = column.from_one in
    let to = column.within in
    rw (place_of-index grid i j from, mod-mul-add (j - 1) grid.nx (i - 1) (omega arith)) (omega arith)

-- the row of the cell in row j
pub row_of-index : (grid : Grid) (i j : ℕ) → IsColumn grid i → IsRow grid j → row_of grid (index_of grid i j) ≡ j
row_of-index grid i j column row =
    let from = column.from_one in
    let to = column.within in
    let above = row.from_one in
    rw (place_of-index grid i j from, div-mul-add (j - 1) grid.nx (i - 1) (omega arith)) (omega arith)

-- a neighbour is a cell
neighbour_of-cell : (grid : Grid) (s : ℕ) (dx dy : ℤ) → IsGrid grid → IsCell grid (neighbour_of grid s dx dy)
unfolding neighbour_of
neighbour_of-cell grid s dx dy is =
    index_of-cell grid _ _ (column_at-column grid (pos (column_of grid s) +ℤ dx) is) (row_at-row grid (pos (row_of grid s) +ℤ dy) is)

-- its column depends on the offset along the row alone
column_of-neighbour : (grid : Grid) (s : ℕ) (dx dy : ℤ) → IsGrid grid → column_of grid (neighbour_of grid s dx dy) ≡ column_at grid (pos (column_of grid s) +ℤ dx)
unfolding neighbour_of
column_of-neighbour grid s dx dy is =
    column_of-index grid _ _ (column_at-column grid (pos (column_of grid s) +ℤ dx) is)

-- and its row on the other
row_of-neighbour : (grid : Grid) (s : ℕ) (dx dy : ℤ) → IsGrid grid → row_of grid (neighbour_of grid s dx dy) ≡ row_at grid (pos (row_of grid s) +ℤ dy)
unfolding neighbour_of
row_of-neighbour grid s dx dy is =
    row_of-index grid _ _ (column_at-column grid (pos (column_of grid s) +ℤ dx) is) (row_at-row grid (pos (row_of grid s) +ℤ dy) is)

-- how the cells of a grid are numbered
pub numbering : (grid : Grid) → IsGrid grid → IsNumbering grid
numbering grid is = record {
  cell = index_of-cell grid;
  column = λ s cell. column_of-column grid s is;
  row = λ s cell. row_of-row grid s is cell;
  index_again = index_of-again grid;
  column_again = λ i j column row. column_of-index grid i j column;
  row_again = row_of-index grid;
  column_within = λ z. column_at-column grid z is;
  row_within = λ z. row_at-row grid z is;
  column_here = column_at-same grid;
  row_here = row_at-same grid;
  neighbour_cell = λ s dx dy. neighbour_of-cell grid s dx dy is;
  neighbour_column = λ s dx dy. column_of-neighbour grid s dx dy is;
  neighbour_row = λ s dx dy. row_of-neighbour grid s dx dy is;
}

-- the column that a number comes to on a ring
pub column_at-ring : (grid : Grid) (x z : ℤ) (column : ℕ) → grid.periodic ≡ true → column ≡ ring_number grid.nx x → x ≡ z → column ≡ column_at grid z
unfolding column_at
column_at-ring grid x z column periodic is same = rw (is, same, periodic) refl

-- and at the nearest edge
pub column_at-edge : (grid : Grid) (x z : ℤ) (column : ℕ) → grid.periodic ≡ false → column ≡ nearest_number grid.nx x → x ≡ z → column ≡ column_at grid z
unfolding column_at
column_at-edge grid x z column periodic is same = rw (is, same, periodic) refl

-- a neighbour, from its column and its row
pub neighbour_from : (grid : Grid) (s : ℕ) (dx dy x y : ℤ) (column row : ℕ) → column ≡ column_at grid x → row ≡ row_at grid y → x ≡ pos (column_of grid s) +ℤ dx → y ≡ pos (row_of grid s) +ℤ dy → column + (row - 1) * grid.nx ≡ neighbour_of grid s dx dy
unfolding neighbour_of
neighbour_from grid s dx dy x y column row column_is row_is x_is y_is = rw (column_is, row_is, x_is, y_is) refl

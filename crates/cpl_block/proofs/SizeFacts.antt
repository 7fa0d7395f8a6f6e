-- How many places there are, in numbers.
use Rattle.std.proofs.Common.{◌≡◌, ℕ, ◌+◌, ◌-◌, ◌*◌, ◌^◌, ◌<◌, ◌≤◌, ℤ, pos, ◌+ℤ◌, arith}
use Rattle.std.proofs.lemmas.Int.{ints}
use Rattle.std.proofs.lemmas.Nat.{mul-add-lt}
use Rattle.std.proofs.Math.Nat.{mul-le-mul, mul-le-mul_left, mul-le-mul_right}
use Rattle.std.specs.Prelude.{unsigned_abs}
use Rattle.cpl_block.specs.Frames.{IsFrame, IsReached, IsSpot, first_of, places_in, row_length, span_of, step_to}
use Rattle.cpl_block.specs.declared.frame.Frame.{Frame}

-- a few columns and rows more than a grid has are not many more places
few_more : (w h nx ny rx ry : ℕ) → w ≤ nx → h ≤ ny → nx * ny ≤ 2 ^ 20 → 1 ≤ nx → 1 ≤ ny → rx ≤ 2 → ry ≤ 2 → (w + 2 * rx) * (h + 2 * ry) ≤ 2 ^ 24
few_more w h nx ny rx ry w_few h_few cells some_columns some_rows rx_few ry_few =
    let wide : w + 2 * rx ≤ nx + 4 = omega arith in
    let high : h + 2 * ry ≤ ny + 4 = omega arith in
    let all : (w + 2 * rx) * (h + 2 * ry) ≤ (nx + 4) * (ny + 4) = mul-le-mul wide high in
    let columns : nx * 1 ≤ nx * ny = mul-le-mul_left nx some_rows in
    let rows : 1 * ny ≤ nx * ny = mul-le-mul_right ny some_columns in
    let sum : (nx + 4) * (ny + 4) ≤ 2 ^ 24 = omega arith in
    omega arith

-- there are few places
pub few-places : (frame : Frame) → IsFrame frame → places_in frame ≤ 2 ^ 24
few-places frame is =
    let columns = is.part.columns in
    let rows = is.part.rows in
    few_more frame.part.columns.length frame.part.rows.length frame.grid.nx frame.grid.ny frame.rx frame.ry (omega arith) (omega arith) is.grid.cells is.grid.columns is.grid.rows is.across is.down

-- the sum of a ring's width and an offset
pub record IsShift (ring : ℕ) (z : ℤ) : Type 0 where
  pub few : unsigned_abs (pos ring +ℤ z) ≤ 2 * ring
  pub is : pos (unsigned_abs (pos ring +ℤ z)) ≡ pos ring +ℤ z

pub shift-of : (ring : ℕ) (z : ℤ) → unsigned_abs z ≤ ring → IsShift ring z
shift-of ring z small = record { few = omega (arith, ints, small); is = omega (arith, ints, small) }

-- a place, by its row and its column
pub joined : (u v w a b : ℕ) → u * w + v + (b * w + a) ≡ (u + b) * w + (v + a)
joined u v w a b = omega arith

-- a place at an offset from a cell's lies within
pub within-places : (frame : Frame) (a b : ℕ) (dx dy : ℤ) → IsSpot frame a b → IsReached frame dx dy → first_of frame dx dy + step_to frame a b < places_in frame
within-places frame a b dx dy spot reach =
    let across = (shift-of frame.rx dx reach.across).few in
    let down = (shift-of frame.ry dy reach.down).few in
    let column = spot.column in
    let row = spot.row in
    let u = unsigned_abs (pos frame.ry +ℤ dy) in
    let v = unsigned_abs (pos frame.rx +ℤ dx) in
    let inside : v + a < row_length frame = omega arith in
    let below : u + b < frame.part.rows.length + 2 * frame.ry = omega arith in
    rw (joined u v (row_length frame) a b) (mul-add-lt (u + b) (row_length frame) (v + a) (frame.part.rows.length + 2 * frame.ry) below inside)

-- the last place of a run, in numbers
last_of : (w h : ℕ) → 1 ≤ w → 1 ≤ h → (first row : ℕ) → first + ((h - 1) * row + (w - 1)) + 1 ≡ first + ((h - 1) * row + w)
last_of w h some_columns some_rows first row = omega arith

-- a run at an offset ends within
pub ends-places : (frame : Frame) (dx dy : ℤ) → IsFrame frame → IsReached frame dx dy → first_of frame dx dy + span_of frame ≤ places_in frame
ends-places frame dx dy is reach =
    let columns = is.columns in
    let rows = is.rows in
    let w = frame.part.columns.length in
    let h = frame.part.rows.length in
    let spot : IsSpot frame (w - 1) (h - 1) = record { column = omega arith; row = omega arith } in
    let inside = within-places frame (w - 1) (h - 1) dx dy spot reach in
    let last = last_of w h columns rows (first_of frame dx dy) (row_length frame) in
    omega (arith, inside, last)

-- a step is within the span, in numbers
step_within : (a b w h row : ℕ) → a < w → b < h → b * row + a < (h - 1) * row + w
step_within a b w h row column below =
    let rows : b * row ≤ (h - 1) * row = mul-le-mul_right row (omega arith) in
    omega arith

pub steps-within : (frame : Frame) (a b : ℕ) → IsSpot frame a b → step_to frame a b < span_of frame
steps-within frame a b spot =
    step_within a b frame.part.columns.length frame.part.rows.length (row_length frame) spot.column spot.row

-- no offset is one that the ring reaches
pub reach-none : (frame : Frame) → IsReached frame (pos 0) (pos 0)
reach-none frame = record { across = omega arith; down = omega arith }

-- the span is no longer than all places
pub span-few : (frame : Frame) → IsFrame frame → span_of frame ≤ places_in frame
span-few frame is =
    let ends = ends-places frame (pos 0) (pos 0) is (reach-none frame) in
    omega (arith, ends)

-- a row lies within the span
pub row-few : (frame : Frame) (b : ℕ) → IsFrame frame → b < frame.part.rows.length → first_of frame (pos 0) (pos 0) + b * row_length frame + frame.part.columns.length ≤ places_in frame
row-few frame b is below =
    let columns = is.columns in
    let w = frame.part.columns.length in
    let spot : IsSpot frame (w - 1) b = record { column = omega arith; row = below } in
    let inside = within-places frame (w - 1) b (pos 0) (pos 0) spot (reach-none frame) in
    omega (arith, inside, columns)

-- a run at an offset begins within
pub first-few : (frame : Frame) (dx dy : ℤ) → IsFrame frame → IsReached frame dx dy → first_of frame dx dy < places_in frame
first-few frame dx dy is reach =
    let columns = is.columns in
    let rows = is.rows in
    let spot : IsSpot frame 0 0 = record { column = omega arith; row = omega arith } in
    let inside = within-places frame 0 0 dx dy spot reach in
    omega (arith, inside)

-- a step is a number of few digits
pub step-few : (frame : Frame) (a b : ℕ) → IsFrame frame → IsSpot frame a b → step_to frame a b < 2 ^ 24
step-few frame a b is spot =
    let within = steps-within frame a b spot in
    let few = span-few frame is in
    let places = few-places frame is in
    omega (arith, within, few, places)

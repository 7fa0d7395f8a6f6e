-- What the places of a rule's inputs show at the cells of a block.
use Rattle.std.proofs.Common.{◌≡◌, ℕ, ◌+◌, ◌<◌, true, false, List, [], ◌∷◌, ℤ, pos, map, refl, sym, ap, ◌∙◌, inl, inr}
use Rattle.std.proofs.lemmas.Bool.{and_parts, cases_Bool}
use Rattle.std.proofs.lemmas.Bool.Decides.{Decides-int_eq}
use Rattle.std.proofs.lemmas.List.Elements.{All-head, All-tail}
use Rattle.std.specs.List.{All}
use Rattle.cpl_block.specs.Frames.{IsOwn, IsReached, IsRinged, IsSpot, cell_at, first_of, is_own, place_at, step_to, value_at}
use Rattle.cpl_block.specs.Laws.{IsFraming}
use Rattle.cpl_block.specs.declared.frame.Frame.{Frame}
use Rattle.cpl_comp.specs.Halos.{is_here}
use Rattle.cpl_comp.specs.Readings.{Reading, name_value, whole}
use Rattle.cpl_formula.specs.declared.arguments.Argument.{Argument}
use Rattle.cpl_formula.specs.declared.arguments.Argument.TheVariants.{Number, Cell}
use Rattle.cpl_formula.specs.declared.formula.ReadName.{ReadName}
use Rattle.cpl_formula.specs.declared.formula.ReadName.TheVariants as names
use Rattle.cpl_comp.specs.Timing.{Timing}
use Rattle.cpl_comp.specs.Turns.{is_among}
use Rattle.cpl_grid.specs.Grid.{column_of, neighbour_of, row_of}
use Rattle.cpl_grid.specs.declared.grid.Grid.{Grid}
use Rattle.cpl_sweep.specs.Places.{field_at, input_at}
use Rattle.cpl_rule.specs.Inputs.{AreShown, HoldReading, IsArgumentNear, IsHaloed, IsShown, place_of, place_of_name}
use Rattle.cpl_rule.specs.Moments.{IsAt, number_of}
use Rattle.cpl_rule.specs.declared.moment.Moment.{Moment}

-- ---- cells of the block

-- the value of a field at a cell of the block
pub own-at : (frame : Frame) (value : ℕ → ℤ) (field : List ℤ) (a b : ℕ) → IsFraming frame → IsOwn frame value field → IsSpot frame a b → value_at field (place_at frame a b) ≡ value (cell_at frame a b)
own-at frame value field a b laws own spot =
    let home = laws.here a b spot in
    own (place_at frame a b) home.within home.own ∙ ap value home.stands

-- the value of a field beside a cell of the block
ringed-at : (frame : Frame) (value : ℕ → ℤ) (field : List ℤ) (a b : ℕ) (dx dy : ℤ) → IsFraming frame → IsRinged frame value field → IsSpot frame a b → IsReached frame dx dy → value_at field (first_of frame dx dy + step_to frame a b) ≡ value (neighbour_of frame.grid (cell_at frame a b) dx dy)
ringed-at frame value field a b dx dy laws ringed spot reached =
    ringed (first_of frame dx dy + step_to frame a b) (laws.within a b dx dy spot reached) ∙ ap value (laws.reaches a b dx dy spot reached)

-- the value of a field at the cell itself, which is its own neighbour
here-at : (frame : Frame) (value : ℕ → ℤ) (field : List ℤ) (a b : ℕ) (dx dy : ℤ) → IsFraming frame → IsOwn frame value field → IsSpot frame a b → IsReached frame dx dy → dx ≡ pos 0 → dy ≡ pos 0 → value_at field (first_of frame dx dy + step_to frame a b) ≡ value (neighbour_of frame.grid (cell_at frame a b) dx dy)
here-at frame value field a b dx dy laws own spot reached no_columns no_rows =
    let home = laws.here a b spot in
    let own_place : is_own frame (first_of frame dx dy + step_to frame a b) ≡ true = rw (no_columns, no_rows) home.own in
    own (first_of frame dx dy + step_to frame a b) (laws.within a b dx dy spot reached) own_place ∙ ap value (laws.reaches a b dx dy spot reached)

-- ---- names

-- what rules read, without fields and entries
abbrev rebuilt : Timing → (at dt : ℤ) → Grid → Reading
rebuilt timing at dt grid = record {
  timing = timing;
  entries = [];
  layout = record { grid = grid; px = 1; py = 1; first_pet = 0 };
  at = at;
  dt = dt;
  value = λ k s. pos 0;
}

module _ (frame : Frame) (count : ℕ) (halo : List ℕ) (moment : Moment) (reading : Reading) (fields : List (List ℤ)) (laws : IsFraming frame) (at : IsAt moment frame.grid reading) (held : HoldReading frame count halo reading fields) where
  -- a field at an offset
  shown-field : (k : ℕ) (dx dy : ℤ) → IsReached frame dx dy → k < count → (is_here (dx, dy) ≡ false → is_among halo k ≡ true) → (a b : ℕ) → IsSpot frame a b → value_at (field_at fields k) (first_of frame dx dy + step_to frame a b) ≡ reading.value k (neighbour_of reading.layout.grid (cell_at frame a b) dx dy)
  shown-field k dx dy reached below beside a b spot =
      let same : neighbour_of frame.grid (cell_at frame a b) dx dy ≡ neighbour_of reading.layout.grid (cell_at frame a b) dx dy = ap (λ grid. neighbour_of grid (cell_at frame a b) dx dy) (sym at.over) in
      elim (cases_Bool (is_here (dx, dy))) [
        | inl here ↦
            let both = and_parts _ _ here in
            here-at frame (reading.value k) (field_at fields k) a b dx dy laws (held.own k below) spot reached
            ((Decides-int_eq dx (pos 0)).0 both.0) ((Decides-int_eq dy (pos 0)).0 both.1)
            ∙ ap (reading.value k) same
        | inr beside_it ↦
            ringed-at frame (reading.value k) (field_at fields k) a b dx dy laws (held.ringed k (beside beside_it)) spot reached
            ∙ ap (reading.value k) same
      ]

  -- a number, of the same timing and moment
  same-at : (name : ReadName) → number_of frame.grid moment name ≡ name_value (rebuilt reading.timing reading.at reading.dt reading.layout.grid) 0 0 name
  same-at name =
      let timing = sym at.timing in
      let time = sym at.at in
      let step = sym at.dt in
      let over = sym at.over in
      λ i. name_value (rebuilt (timing i) (time i) (step i) (over i)) 0 0 name

  -- a name, where its offsets are 0 unless it is a field's
  shown-name : (name : ReadName) (dx dy : ℤ) → IsReached frame dx dy → ((k : ℕ) → name ≡ names.Field k → k < count) → ((k : ℕ) → name ≡ names.Field k → is_here (dx, dy) ≡ false → is_among halo k ≡ true) → (a b : ℕ) → IsSpot frame a b
      → input_at fields (step_to frame a b) (place_of_name frame count moment dx dy name) ≡ name_value reading (cell_at frame a b) (neighbour_of reading.layout.grid (cell_at frame a b) dx dy) name
  shown-name (names.Field k) dx dy reached below beside a b spot = shown-field k dx dy reached (below k refl) (beside k refl) a b spot
  shown-name names.I dx dy reached below beside a b spot =
      own-at frame (λ s. whole (pos (column_of frame.grid s))) (field_at fields count) a b laws held.numbers.columns spot
      ∙ ap (λ grid. whole (pos (column_of grid (cell_at frame a b)))) (sym at.over)
  shown-name names.J dx dy reached below beside a b spot =
      own-at frame (λ s. whole (pos (row_of frame.grid s))) (field_at fields (count + 1)) a b laws held.numbers.rows spot
      ∙ ap (λ grid. whole (pos (row_of grid (cell_at frame a b)))) (sym at.over)
  shown-name names.S dx dy reached below beside a b spot =
      own-at frame (λ s. whole (pos s)) (field_at fields (count + 2)) a b laws held.numbers.cells spot
  shown-name names.Nx dx dy reached below beside a b spot = ap (λ grid. whole (pos grid.nx)) (sym at.over)
  shown-name names.Ny dx dy reached below beside a b spot = ap (λ grid. whole (pos grid.ny)) (sym at.over)
  shown-name names.Year dx dy reached below beside a b spot = same-at names.Year
  shown-name names.Month dx dy reached below beside a b spot = same-at names.Month
  shown-name names.Day dx dy reached below beside a b spot = same-at names.Day
  shown-name names.Hour dx dy reached below beside a b spot = same-at names.Hour
  shown-name names.Minute dx dy reached below beside a b spot = same-at names.Minute
  shown-name names.Second dx dy reached below beside a b spot = same-at names.Second
  shown-name names.Days dx dy reached below beside a b spot = same-at names.Days
  shown-name names.DaySecond dx dy reached below beside a b spot = same-at names.DaySecond
  shown-name names.Dt dx dy reached below beside a b spot = same-at names.Dt
  shown-name (names.Ring alarm) dx dy reached below beside a b spot = same-at (names.Ring alarm)

  -- an argument
  pub shown-argument : (alarms : ℕ) (argument : Argument) → IsArgumentNear frame count alarms argument → IsHaloed halo argument → IsShown frame reading fields argument (place_of frame count moment argument)
  shown-argument alarms (Number number) near haloed a b spot = refl
  shown-argument alarms (Cell read) near haloed a b spot =
      shown-name read.name read.dx read.dy (record { across = near.across; down = near.down }) near.among.field haloed a b spot

  -- all arguments
  pub shown-all : (alarms : ℕ) (arguments : List Argument) → All (IsArgumentNear frame count alarms) arguments → All (IsHaloed halo) arguments → AreShown frame reading fields arguments (map (place_of frame count moment) arguments)
  shown-all alarms [] near haloed a b spot = refl
  shown-all alarms (argument ∷ more) near haloed a b spot =
      let Near : Argument → Type 0 = IsArgumentNear frame count alarms in
      let Haloed : Argument → Type 0 = IsHaloed halo in
      λ i. shown-argument alarms argument (All-head Near argument more near) (All-head Haloed argument more haloed) a b spot i
      ∷ shown-all alarms more (All-tail Near argument more near) (All-tail Haloed argument more haloed) a b spot i

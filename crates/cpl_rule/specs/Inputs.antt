-- The inputs of a rule over a block: where each comes from, and what it shows at the block's cells.
use Rattle.std.specs.Prelude.{◌≡◌, ℕ, ◌+◌, ◌<◌, ◌≤◌, ℤ, pos, true, false, List, length, map, unsigned_abs}
use Rattle.std.specs.List.{All}
use Rattle.cpl_base.specs.Numbers.{IsValue}
use Rattle.cpl_block.specs.Frames.{IsOwn, IsRinged, IsSpot, cell_at, first_of, places_in, step_to}
use Rattle.cpl_block.specs.declared.frame.Frame.{Frame}
use Rattle.cpl_comp.specs.Halos.{is_here}
use Rattle.cpl_comp.specs.Readings.{Reading, argument_value, whole}
use Rattle.cpl_comp.specs.Turns.{is_among}
use Rattle.cpl_comp.specs.declared.component.Rule.{Rule}
use Rattle.cpl_comp.specs.declared.component.Rule.TheVariants.{Plain, Native}
use Rattle.cpl_formula.specs.Reads.{IsRead}
use Rattle.cpl_formula.specs.declared.arguments.Argument.{Argument}
use Rattle.cpl_formula.specs.declared.arguments.Argument.TheVariants.{Number, Cell}
use Rattle.cpl_formula.specs.declared.formula.Read.{Read}
use Rattle.cpl_formula.specs.declared.formula.ReadName.{ReadName}
use Rattle.cpl_formula.specs.declared.formula.ReadName.TheVariants as names
use Rattle.cpl_grid.specs.Grid.{column_of, row_of}
use Rattle.cpl_sweep.specs.Places.{field_at, input_at, inputs_at}
use Rattle.cpl_sweep.specs.declared.place.Place.{Place}
use Rattle.cpl_sweep.specs.declared.place.Place.TheVariants.{Same, From}
use Rattle.cpl_rule.specs.Moments.{number_of}
use Rattle.cpl_rule.specs.declared.moment.Moment.{Moment}

-- ---- where inputs come from

-- what a rule is given: a formula its reads, an entry its arguments
abbrev pub arguments_of : Rule → List Argument
arguments_of (Plain parsed) = map Cell parsed.reads
arguments_of (Native entry arguments) = arguments

-- Where what a name stands for comes from. Behind the fields of a component stand three more, of which each holds a number
-- of the cell itself: its column, its row and its sequence index.
abbrev pub place_of_name : Frame → ℕ → Moment → (dx dy : ℤ) → ReadName → Place
place_of_name frame fields moment dx dy (names.Field k) = From k (first_of frame dx dy)
place_of_name frame fields moment dx dy names.I = From fields (first_of frame (pos 0) (pos 0))
place_of_name frame fields moment dx dy names.J = From (fields + 1) (first_of frame (pos 0) (pos 0))
place_of_name frame fields moment dx dy names.S = From (fields + 2) (first_of frame (pos 0) (pos 0))
place_of_name frame fields moment dx dy name = Same (number_of frame.grid moment name)

-- where an argument comes from
abbrev pub place_of : Frame → ℕ → Moment → Argument → Place
place_of frame fields moment (Number number) = Same number
place_of frame fields moment (Cell read) = place_of_name frame fields moment read.dx read.dy read.name

-- where all that a rule is given comes from
abbrev pub places_of_rule : Frame → ℕ → Moment → Rule → List Place
places_of_rule frame fields moment rule = map (place_of frame fields moment) (arguments_of rule)

-- ---- what they show

-- a place shows an argument: at each cell of the block it has the argument's value
abbrev pub IsShown : Frame → Reading → List (List ℤ) → Argument → Place → Type 0
IsShown frame reading fields argument place =
    (a b : ℕ) → IsSpot frame a b → input_at fields (step_to frame a b) place ≡ argument_value reading (cell_at frame a b) argument

-- places show arguments, one each
abbrev pub AreShown : Frame → Reading → List (List ℤ) → List Argument → List Place → Type 0
AreShown frame reading fields arguments places =
    (a b : ℕ) → IsSpot frame a b
    → inputs_at places fields (step_to frame a b) ≡ map (argument_value reading (cell_at frame a b)) arguments

-- ---- what fields hold

-- As many fields as a component has, and three more, each with a value at each place of a block.
pub record AreFields (frame : Frame) (count : ℕ) (fields : List (List ℤ)) : Type 0 where
  pub number : length fields ≡ count + 3
  pub places : All (λ field. length field ≡ places_in frame) fields
  pub values : All (All IsValue) fields

-- The three fields behind those of a component hold the numbers of the block's cells.
pub record HaveNumbers (frame : Frame) (count : ℕ) (fields : List (List ℤ)) : Type 0 where
  pub columns : IsOwn frame (λ s. whole (pos (column_of frame.grid s))) (field_at fields count)
  pub rows : IsOwn frame (λ s. whole (pos (row_of frame.grid s))) (field_at fields (count + 1))
  pub cells : IsOwn frame (λ s. whole (pos s)) (field_at fields (count + 2))

-- Fields hold what is read of them: at the places of the block, and all around where a field is read beside the cell.
pub record HoldReading (frame : Frame) (count : ℕ) (halo : List ℕ) (reading : Reading) (fields : List (List ℤ)) : Type 0 where
  pub own : (k : ℕ) → k < count → IsOwn frame (reading.value k) (field_at fields k)
  pub ringed : (k : ℕ) → is_among halo k ≡ true → IsRinged frame (reading.value k) (field_at fields k)
  pub numbers : HaveNumbers frame count fields

-- ---- what rules may read

-- a read among so many fields and alarms, no farther than the ring
pub record IsReadNear (frame : Frame) (fields alarms : ℕ) (read : Read) : Type 0 where
  pub among : IsRead fields alarms read
  pub across : unsigned_abs read.dx ≤ frame.rx
  pub down : unsigned_abs read.dy ≤ frame.ry

-- an argument is a value, or such a read
abbrev pub IsArgumentNear : Frame → ℕ → ℕ → Argument → Type 0
IsArgumentNear frame fields alarms (Number number) = IsValue number
IsArgumentNear frame fields alarms (Cell read) = IsReadNear frame fields alarms read

-- a field that is read beside the cell is of the halo
abbrev pub IsHaloed : List ℕ → Argument → Type 0
IsHaloed halo (Number number) = Unit {0}
IsHaloed halo (Cell read) = (k : ℕ) → read.name ≡ names.Field k → is_here (read.dx, read.dy) ≡ false → is_among halo k ≡ true

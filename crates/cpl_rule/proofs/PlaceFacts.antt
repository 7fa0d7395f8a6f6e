-- Where inputs come from lies within the fields.
use Rattle.std.proofs.Common.{◌≡◌, ℕ, ◌+◌, ◌<◌, ◌≤◌, List, [], ◌∷◌, ℤ, pos, map, length, refl, arith}
use Rattle.std.proofs.lemmas.List.Elements.{All-cons, All-head, All-nil, All-tail}
use Rattle.std.specs.List.{All}
use Rattle.std.specs.Prelude.{◌*ℤ◌}
use Rattle.cpl_base.specs.Numbers.{IsValue, million}
use Rattle.cpl_block.specs.Frames.{IsReached, first_of, places_in, span_of}
use Rattle.cpl_block.specs.Laws.{IsFraming}
use Rattle.cpl_block.specs.declared.frame.Frame.{Frame}
use Rattle.cpl_comp.proofs.HeldFacts.{clip-within}
use Rattle.cpl_formula.specs.declared.arguments.Argument.{Argument}
use Rattle.cpl_formula.specs.declared.arguments.Argument.TheVariants.{Number, Cell}
use Rattle.cpl_formula.specs.declared.formula.ReadName.{ReadName}
use Rattle.cpl_formula.specs.declared.formula.ReadName.TheVariants as names
use Rattle.cpl_sweep.specs.Places.{IsPlace, field_at}
use Rattle.cpl_comp.specs.Readings.{moment_parts, one_if, whole}
use Rattle.cpl_comp.specs.Timing.{day_second, days_after, is_alarm_at}
use Rattle.cpl_rule.specs.Moments.{bare_reading, timing_of}
use Rattle.cpl_rule.specs.Inputs.{AreFields, IsArgumentNear, place_of, place_of_name}
use Rattle.cpl_rule.specs.declared.moment.Moment.{Moment}

whole-within : (n : ℤ) → IsValue (whole n)
whole-within n = clip-within (n *ℤ pos million)

module _ (frame : Frame) (count : ℕ) (moment : Moment) (fields : List (List ℤ)) (laws : IsFraming frame) (are : AreFields frame count fields) where
  -- a run of a field that is there
  run-within : (k : ℕ) (dx dy : ℤ) → IsReached frame dx dy → k < count + 3 → (k < length fields) × (first_of frame dx dy + span_of frame ≤ length (field_at fields k))
  run-within k dx dy reached below =
      let there : k < length fields = omega (arith, are.number) in
      let long : length (field_at fields k) ≡ places_in frame = are.places k [] there in
      (there, rw long (laws.ends dx dy reached))

  -- the cell itself is reached
  here-reached : IsReached frame (pos 0) (pos 0)
  here-reached = record { across = omega arith; down = omega arith }

  -- a name
  placed-name : (name : ReadName) (dx dy : ℤ) → IsReached frame dx dy → ((k : ℕ) → name ≡ names.Field k → k < count) → IsPlace fields (span_of frame) (place_of_name frame count moment dx dy name)
  placed-name (names.Field k) dx dy reached below = run-within k dx dy reached (let inside = below k refl in omega arith)
  placed-name names.I dx dy reached below = run-within count (pos 0) (pos 0) here-reached (omega arith)
  placed-name names.J dx dy reached below = run-within (count + 1) (pos 0) (pos 0) here-reached (omega arith)
  placed-name names.S dx dy reached below = run-within (count + 2) (pos 0) (pos 0) here-reached (omega arith)
  placed-name names.Nx dx dy reached below = whole-within (pos frame.grid.nx)
  placed-name names.Ny dx dy reached below = whole-within (pos frame.grid.ny)
  placed-name names.Year dx dy reached below = whole-within (pos (moment_parts (bare_reading frame.grid moment)).year)
  placed-name names.Month dx dy reached below = whole-within (pos (moment_parts (bare_reading frame.grid moment)).month)
  placed-name names.Day dx dy reached below = whole-within (pos (moment_parts (bare_reading frame.grid moment)).day)
  placed-name names.Hour dx dy reached below = whole-within (pos (moment_parts (bare_reading frame.grid moment)).hour)
  placed-name names.Minute dx dy reached below = whole-within (pos (moment_parts (bare_reading frame.grid moment)).minute)
  placed-name names.Second dx dy reached below = whole-within (pos (moment_parts (bare_reading frame.grid moment)).second)
  placed-name names.Days dx dy reached below = whole-within (days_after (timing_of moment.times) moment.at)
  placed-name names.DaySecond dx dy reached below = whole-within (pos (day_second (moment_parts (bare_reading frame.grid moment))))
  placed-name names.Dt dx dy reached below = whole-within moment.dt
  placed-name (names.Ring alarm) dx dy reached below = whole-within (pos (one_if (is_alarm_at (timing_of moment.times) alarm moment.at)))

  -- an argument
  placed-argument : (alarms : ℕ) (argument : Argument) → IsArgumentNear frame count alarms argument → IsPlace fields (span_of frame) (place_of frame count moment argument)
  placed-argument alarms (Number number) near = near
  placed-argument alarms (Cell read) near =
      placed-name read.name read.dx read.dy (record { across = near.across; down = near.down }) near.among.field

  -- all arguments
  pub placed-all : (alarms : ℕ) (arguments : List Argument) → All (IsArgumentNear frame count alarms) arguments → All (IsPlace fields (span_of frame)) (map (place_of frame count moment) arguments)
  placed-all alarms [] near = All-nil (IsPlace fields (span_of frame))
  placed-all alarms (argument ∷ more) near =
      let Near : Argument → Type 0 = IsArgumentNear frame count alarms in
      All-cons (IsPlace fields (span_of frame)) (place_of frame count moment argument) (map (place_of frame count moment) more)
      (placed-argument alarms argument (All-head Near argument more near))
      (placed-all alarms more (All-tail Near argument more near))

-- What rules read, and the value that a rule gives at a cell.
use Rattle.std.specs.Prelude.{ℕ, ℤ, pos, ◌*ℤ◌, Bool, true, false, List, map, slice_get}
use Rattle.std.specs.Option.{option_map_or}
use Rattle.cpl_base.specs.Numbers.{clip, million}
use Rattle.cpl_calendar.specs.declared.times.Parts.{Parts}
use Rattle.cpl_formula.specs.Tree.{value_of}
use Rattle.cpl_formula.specs.declared.arguments.Argument.{Argument}
use Rattle.cpl_formula.specs.declared.arguments.Argument.TheVariants.{Number, Cell}
use Rattle.cpl_formula.specs.declared.formula.Read.{Read}
use Rattle.cpl_formula.specs.declared.formula.ReadName.{ReadName}
use Rattle.cpl_formula.specs.declared.formula.ReadName.TheVariants as names
use Rattle.cpl_grid.specs.Grid.{column_of, neighbour_of, row_of}
use Rattle.cpl_grid.specs.Owners.{Layout}
use Rattle.cpl_comp.specs.Timing.{Timing, day_second, days_after, is_alarm_at, parts_after}
use Rattle.cpl_comp.specs.Worlds.{over_cells}
use Rattle.cpl_comp.specs.declared.component.Rule.{Rule}
use Rattle.cpl_comp.specs.declared.component.Rule.TheVariants.{Plain, Native}

-- What each native entry answers to its inputs.
abbrev pub EntryAnswers : Type 0
EntryAnswers = List (List ℤ → ℤ)

-- What the rules of one operation read: the run's timing, the native entries, the decomposed grid, the operation's
-- moment in seconds after the start, the seconds that it leads on, and the value of each field at each cell.
pub record Reading : Type 0 where
  pub timing : Timing
  pub entries : EntryAnswers
  pub layout : Layout
  pub at : ℤ
  pub dt : ℤ
  pub value : ℕ → ℕ → ℤ

-- ---- names

-- a whole number as a value: in millionths, the nearest that there is
abbrev pub whole : ℤ → ℤ
whole n = clip (n *ℤ pos million)

-- a yes as 1, a no as 0
abbrev pub one_if : Bool → ℕ
one_if true = 1
one_if false = 0

-- the six numbers of the operation's moment
abbrev pub moment_parts : Reading → Parts
moment_parts reading = parts_after reading.timing reading.at

-- what a name stands for at a cell: a field at the neighbour, all else at the cell itself
abbrev pub name_value : Reading → (s neighbour : ℕ) → ReadName → ℤ
name_value reading s neighbour (names.Field k) = reading.value k neighbour
name_value reading s neighbour names.I = whole (pos (column_of reading.layout.grid s))
name_value reading s neighbour names.J = whole (pos (row_of reading.layout.grid s))
name_value reading s neighbour names.S = whole (pos s)
name_value reading s neighbour names.Nx = whole (pos reading.layout.grid.nx)
name_value reading s neighbour names.Ny = whole (pos reading.layout.grid.ny)
name_value reading s neighbour names.Year = whole (pos (moment_parts reading).year)
name_value reading s neighbour names.Month = whole (pos (moment_parts reading).month)
name_value reading s neighbour names.Day = whole (pos (moment_parts reading).day)
name_value reading s neighbour names.Hour = whole (pos (moment_parts reading).hour)
name_value reading s neighbour names.Minute = whole (pos (moment_parts reading).minute)
name_value reading s neighbour names.Second = whole (pos (moment_parts reading).second)
name_value reading s neighbour names.Days = whole (days_after reading.timing reading.at)
name_value reading s neighbour names.DaySecond = whole (pos (day_second (moment_parts reading)))
name_value reading s neighbour names.Dt = whole reading.dt
name_value reading s neighbour (names.Ring k) = whole (pos (one_if (is_alarm_at reading.timing k reading.at)))

-- what a read gives at a cell
abbrev pub read_value : Reading → ℕ → Read → ℤ
read_value reading s read = name_value reading s (neighbour_of reading.layout.grid s read.dx read.dy) read.name

-- what an argument of a call gives at a cell
abbrev pub argument_value : Reading → ℕ → Argument → ℤ
argument_value reading s (Number number) = number
argument_value reading s (Cell read) = read_value reading s read

-- ---- rules

-- what the entry of a place answers
abbrev pub entry_answer : EntryAnswers → ℕ → List ℤ → ℤ
entry_answer entries entry inputs = option_map_or (λ answer. answer inputs) (slice_get entries entry) (pos 0)

-- the value of a rule at a cell
abbrev pub rule_value : Reading → Rule → ℕ → ℤ
rule_value reading (Plain parsed) s = value_of (map (read_value reading s) parsed.reads) parsed.tree
rule_value reading (Native entry arguments) s = entry_answer reading.entries entry (map (argument_value reading s) arguments)

-- its value at each cell
abbrev pub rule_values : Reading → Rule → List ℤ
rule_values reading rule = over_cells reading.layout (rule_value reading rule)

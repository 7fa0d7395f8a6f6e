-- The turn that a declared one is.
use Rattle.std.specs.Prelude.{pos, ◌^◌, ◌+ℤ◌, ◌≤ℤ◌, ◌<ℤ◌}
use Rattle.cpl_comp.specs.Turns.{Turn as CompTurn}
use Rattle.cpl_marks.specs.declared.turn.Turn.{Turn}

-- the same turn in the words of components
abbrev pub turn_of : Turn → CompTurn
turn_of turn = record { time = turn.time; step = turn.step; at = turn.at; substep = turn.substep; first = turn.first; last = turn.last }

-- A turn of a run: it lies at the start or later, and its step ends within 64 bits.
pub record IsTurn (turn : Turn) : Type 0 where
  pub forward : pos 0 ≤ℤ turn.time
  pub step_some : pos 0 ≤ℤ turn.step
  pub step_ends : (turn.time +ℤ turn.step) <ℤ pos (2 ^ 63)

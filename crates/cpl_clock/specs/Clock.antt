-- Clocks: what callers see of one, how it begins, and how it goes on.
use Rattle.std.specs.Prelude.{◌≡◌, ◌^◌, ℤ, pos, ◌+ℤ◌, ◌≤ℤ◌, int_lt, int_le, if◌then◌else◌, Result, Ok, Err, MatchResult}
use Rattle.cpl_clock.specs.declared.fault.ClockFault.{ClockFault}
use Rattle.cpl_clock.specs.declared.fault.ClockFault.TheVariants.{StepZero, StopNotAfter, PastStop}

-- What callers see of a clock: where it stands, where it ends, and how far a step goes.
pub record ClockView : Type 0 where
  pub current : ℤ
  pub stop : ℤ
  pub step : ℤ

-- What holds of every clock.
pub record IsSound (v : ClockView) : Type 0 where
  pub begun : pos 0 ≤ℤ v.current
  pub not_past : v.current ≤ℤ v.stop
  pub stop_high : v.stop ≤ℤ pos (2 ^ 40)
  pub step_low : pos 1 ≤ℤ v.step
  pub step_high : v.step ≤ℤ pos (2 ^ 40)

-- a clock at its start, or why there is none
abbrev pub clock_at_start : ℤ → ℤ → ℤ → Result ClockView ClockFault
clock_at_start start stop step =
    if int_lt step (pos 1) then Err StepZero
    else (if int_le stop start then Err StopNotAfter else Ok (record { current = start; stop = stop; step = step }))

-- the clock a step further, or why it goes no further
abbrev pub clock_after_step : ClockView → Result ClockView ClockFault
clock_after_step v =
    if int_lt v.stop (v.current +ℤ v.step) then Err PastStop
    else Ok (record v { current = v.current +ℤ v.step })

-- the clock goes a step further, or answers why it doesn't and stays
abbrev pub Goes : ClockView → Result (Unit {0}) ClockFault → ClockView → Type 0
Goes old result new =
    MatchResult (clock_after_step old) (λ v. (result ≡ Ok tt) × (new ≡ v)) (λ fault. (result ≡ Err fault) × (new ≡ old))

-- What reading asks of what it is given.
use Rattle.std.specs.Prelude.{ℤ, pos, ◌≤◌, ◌≤ℤ◌, ◌<ℤ◌, ◌^◌, List, length, Option, IfSome}
use Rattle.std.specs.List.{All}
use Rattle.cpl_sequence.specs.declared.seq_name.SeqName.{SeqName}

-- a component has at most 16 phases
abbrev pub HasFewPhases : SeqName → Type 0
HasFewPhases name = length name.phases ≤ 16

-- There are at most 32 components, each with at most 16 phases.
pub record AreFew (names : List SeqName) : Type 0 where
  pub names_few : length names ≤ 32
  pub phases_few : All HasFewPhases names

-- a step of the run or of a component, in seconds
abbrev pub IsStep : ℤ → Type 0
IsStep step = (pos 1 ≤ℤ step) × (step ≤ℤ pos 1000000000)

-- Components that a sequence can be read over.
pub record AreNames (names : List SeqName) : Type 0 where
  pub few : AreFew names
  pub phases_some : All (λ name. 1 ≤ length name.phases) names
  pub substeps : All (λ name. IfSome name.substep IsStep) names

-- Components, a span, a step and a room by which rows can be read.
pub record IsAsked (names : List SeqName) (span time_step : Option ℤ) (room : ℤ) : Type 0 where
  pub names_are : AreNames names
  pub step : IfSome time_step IsStep
  pub room_least : pos 1 ≤ℤ room
  pub room_most : room ≤ℤ pos (2 ^ 40)
  pub span_least : IfSome span (λ s. pos 1 ≤ℤ s)
  pub span_below : IfSome span (λ s. s <ℤ room)

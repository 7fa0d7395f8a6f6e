-- The code's own: how the frames of a cursor turn to its next operation.
use Rattle.std.specs.Prelude.{◌≡◌, ◌<◌, ℕ, zero, suc, ◌+◌, List, [], ◌∷◌, Option, Some, None, IfSome, if◌then◌else◌, nat_lt, length, map, option_map}
use Rattle.std.specs.Option.{option_map_or}
use Rattle.cpl_sequence.specs.Remainder.{FitsElement, FitsIn, remainder_in, remainder_of, start_frame}
use Rattle.cpl_sequence.specs.declared.element.Element.{Element}
use Rattle.cpl_sequence.specs.declared.frame.Frame.{Frame}
use Rattle.cpl_sequence.specs.declared.frame.Step.{Step}
use Rattle.cpl_sequence.specs.declared.frame.Turn.{Turn}

-- frames that are all at the beginning
abbrev pub start_frames : List Frame → List Frame
start_frames frames = map (λ frame. start_frame) frames

-- the frames after a turn: so at this level, and at the beginning below
abbrev pub turned_frames : List Frame → ℕ → Frame → List Frame
turned_frames [] level frame = []
turned_frames (above ∷ frames) zero frame = frame ∷ start_frames frames
turned_frames (above ∷ frames) (suc level) frame = above ∷ turned_frames frames level frame

-- the next element of the body, else the first of the next round, if there is one
abbrev pub next_frame : Frame → (places rounds : ℕ) → Option Frame
next_frame frame places rounds =
    if nat_lt (frame.place + 1) places then Some (record { place = frame.place + 1; round = frame.round })
    else (if nat_lt (frame.round + 1) rounds then Some (record { place = 0; round = frame.round + 1 }) else None)

-- the turn of a loop: that of the element at which it stands, else its own
abbrev pub turn_of : Option Turn → Frame → (places rounds : ℕ) → Option Turn
turn_of (Some turn) frame places rounds = Some (record { level = turn.level + 1; frame = turn.frame })
turn_of None frame places rounds = option_map (λ next. record { level = 0; frame = next }) (next_frame frame places rounds)

-- an operation of an element, with the turn to its next one, if there is one
pub record StepsElement (frames : List Frame) (element : Element) (time step : ℕ) (made : Step) : Type 0 where
  pub gives : remainder_of frames element time step ≡ made.op ∷ option_map_or (λ turn. remainder_of (turned_frames frames turn.level turn.frame) element time step) made.turn []
  pub fits : IfSome made.turn (λ turn. FitsElement (turned_frames frames turn.level turn.frame) element step)
  pub inside : IfSome made.turn (λ turn. turn.level < length frames)

-- an operation of a loop, with the turn to its next one, if there is one
pub record StepsLoop (frames : List Frame) (step duration : ℕ) (body : List Element) (time : ℕ) (made : Step) : Type 0 where
  pub gives : remainder_in frames step duration body time ≡ made.op ∷ option_map_or (λ turn. remainder_in (turned_frames frames turn.level turn.frame) step duration body time) made.turn []
  pub fits : IfSome made.turn (λ turn. FitsIn (turned_frames frames turn.level turn.frame) step duration body)
  pub inside : IfSome made.turn (λ turn. turn.level < length frames)

-- The code's own: what a cursor has still to give.
use Rattle.std.specs.Prelude.{◌≡◌, ◌<◌, ◌≤◌, ⊤, ℕ, ◌+◌, ◌*◌, ◌/◌, false, List, [], ◌∷◌, ◌++◌, IfSome, MatchOption, length, drop, slice_get, option_to_list}
use Rattle.std.specs.List.{flat_map}
use Rattle.cpl_sequence.specs.Sequence.{Sequence}
use Rattle.cpl_sequence.specs.Operations.{run_ops, body_ops, top_ops, operations_of, numbers_below}
use Rattle.cpl_sequence.specs.declared.element.Element.{Element, out-Element}
use Rattle.cpl_sequence.specs.declared.element.Element.TheOpen.{Element-F, Link, Run, Loop}
use Rattle.cpl_sequence.specs.declared.element.TopLoop.{TopLoop}
use Rattle.cpl_sequence.specs.declared.frame.Frame.{Frame}
use Rattle.cpl_sequence.specs.declared.op.Op.{Op}
use Rattle.cpl_sequence.specs.declared.op.Op.TheVariants.{Link as LinkOp}

-- What contracts see of a cursor: at which top loop it stands, and where in the loops below, from the outermost on.
pub record Spot : Type 0 where
  pub top : ℕ
  pub frames : List Frame

-- the beginning of a loop, or of a run
abbrev pub start_frame : Frame
start_frame = record { place = 0; round = 0 }

-- What is left of a loop that began at a time: the rest of the element at which the frame stands, the elements
-- behind it in this round, and the later rounds.
abbrev pub remainder_at : Frame → (Element → ℕ → ℕ → List Op) → (step duration : ℕ) → List Element → ℕ → List Op
remainder_at frame rest step duration body time =
    let now = time + frame.round * step in
    flat_map (λ element. rest element now step) (option_to_list (slice_get body frame.place))
    ++ body_ops (drop (frame.place + 1) body) now step
    ++ flat_map (λ n. body_ops body (time + n * step) step) (drop (frame.round + 1) (numbers_below (duration / step)))

-- what is left of an element at one level, where an element in it has such a rest
abbrev pub remainder_step : Frame → (Element → ℕ → ℕ → List Op) → Element-F Element → ℕ → ℕ → List Op
remainder_step frame rest (Link link) time step = LinkOp link false ∷ []
remainder_step frame rest (Run component phase substep) time step = drop frame.round (run_ops component phase time step substep)
remainder_step frame rest (Loop inner duration body) time step = remainder_at frame rest inner duration body time

-- what is left of an element, from a time on in a loop of a step
abbrev pub remainder_of : List Frame → Element → ℕ → ℕ → List Op
remainder_of [] element time step = []
remainder_of (frame ∷ frames) element time step = remainder_step frame (remainder_of frames) (out-Element element) time step

-- what is left of a loop
abbrev pub remainder_in : List Frame → (step duration : ℕ) → List Element → ℕ → List Op
remainder_in [] step duration body time = []
remainder_in (frame ∷ frames) step duration body time = remainder_at frame (remainder_of frames) step duration body time

-- what is left of a loop that stands in no other
abbrev pub remainder_of_top : List Frame → TopLoop → List Op
remainder_of_top frames top = remainder_in frames top.step top.duration top.body top.begin

-- the operations that a cursor has still to give, in their order
abbrev pub remainder : Sequence → Spot → List Op
remainder seq spot = flat_map (remainder_of_top spot.frames) (option_to_list (slice_get seq.loops spot.top)) ++ flat_map top_ops (drop (spot.top + 1) seq.loops)

-- a frame is one of a loop: in one of its rounds, and at an element where the frames below fit
abbrev pub FitsLoop : Frame → (Element → ℕ → Type 0) → (step duration : ℕ) → List Element → Type 0
FitsLoop frame Fits step duration body = (frame.round < duration / step) × MatchOption (slice_get body frame.place) ⊥ (λ element. Fits element step)

-- a frame is one of an element at one level
abbrev pub FitsStep : Frame → (Element → ℕ → Type 0) → Element-F Element → ℕ → Type 0
FitsStep frame Fits (Link link) step = ⊤
FitsStep frame Fits (Run component phase substep) step = frame.round < length (run_ops component phase 0 step substep)
FitsStep frame Fits (Loop inner duration body) step = FitsLoop frame Fits inner duration body

-- frames are those of an element
abbrev pub FitsElement : List Frame → Element → ℕ → Type 0
FitsElement [] element step = ⊥
FitsElement (frame ∷ frames) element step = FitsStep frame (FitsElement frames) (out-Element element) step

-- frames are those of a loop
abbrev pub FitsIn : List Frame → (step duration : ℕ) → List Element → Type 0
FitsIn [] step duration body = ⊥
FitsIn (frame ∷ frames) step duration body = FitsLoop frame (FitsElement frames) step duration body

-- frames are those of a loop that stands in no other
abbrev pub FitsTop : List Frame → TopLoop → Type 0
FitsTop frames top = FitsIn frames top.step top.duration top.body

-- A cursor is one of a sequence: it stands at an operation, or past the last, and has still to give the operations
-- of the sequence behind those that it gave.
pub record IsCursorOf (seq : Sequence) (spot : Spot) : Type 0 where
  pub levels : length spot.frames ≡ 9
  pub fits : MatchOption (slice_get seq.loops spot.top) ⊤ (FitsTop spot.frames)
  pub given : ℕ
  pub rest : remainder seq spot ≡ drop given (operations_of seq)

-- From a place on, a place is that of the first loop in which something stands, or past the last.
pub record IsFilledFrom (tops : List TopLoop) (from place : ℕ) : Type 0 where
  pub behind : from ≤ place
  pub inside : place ≤ length tops
  pub empty : flat_map top_ops (drop from tops) ≡ flat_map top_ops (drop place tops)
  pub filled : IfSome (slice_get tops place) (λ top. 0 < length top.body)

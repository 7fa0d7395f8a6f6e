pub mod BoundFacts
mod CapFacts
mod CursorFacts
pub mod ListFacts
mod MarkFacts
mod OperationSizes
mod PlaceFacts
mod RemainderFacts
mod RunEndsFacts
mod RunFacts
pub mod SoundFacts
mod StepFacts
mod TopLoopFacts
pub mod TreeFacts
mod TurnFacts
mod TurnedFrames

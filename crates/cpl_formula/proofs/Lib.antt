pub mod Answers
pub mod ArgumentsFacts
mod Complete
mod CutParts
mod Facts
mod FinalReads
mod Judging
pub mod NamedFacts
mod Onward
mod Outcomes
mod ReadsFacts
mod SameRead
mod Shown
mod Spelled
mod Standing
mod Stepping
mod TangledLaws
mod TextSteps
mod TextWalk
mod TokenCases
mod TokenFacts
mod TreeFacts
pub mod ValuesFacts
mod Walking

mod AssignedFacts
pub mod DemandFacts
pub mod DemandLaws
mod InputsFacts
mod NumberedFacts
mod PlaceFacts
pub mod ShownFacts
pub mod SweptFacts

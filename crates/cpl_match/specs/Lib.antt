pub mod Examples
pub mod Marks
pub mod Matching
pub mod Pairs
pub mod Scopes
pub mod WayIndex

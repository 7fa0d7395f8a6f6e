pub mod Builds
pub mod Causes
pub mod Examples
pub mod Faults
pub mod Outlines
pub mod Refusals
pub mod WeightFiles

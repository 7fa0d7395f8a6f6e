pub mod Averages
pub mod Examples
pub mod Merges

pub mod Examples
pub mod Files
pub mod Kept
pub mod Needs
pub mod Records
pub mod Rows
pub mod Sums

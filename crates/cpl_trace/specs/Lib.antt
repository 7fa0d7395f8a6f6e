pub mod Examples
pub mod Lines
pub mod Logs
pub mod Merging
pub mod Rows
pub mod Steps
pub mod Writers

pub mod Calendar
pub mod Dates
pub mod Examples
pub mod Parts
pub mod Places
pub mod Texts

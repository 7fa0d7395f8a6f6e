pub mod Alarm
pub mod Clock
pub mod Examples

pub mod Alarms
pub mod Components
pub mod Dictionaries
pub mod Examples
pub mod Head
pub mod Tables
pub mod Times

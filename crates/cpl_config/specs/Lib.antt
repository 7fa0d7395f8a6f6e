pub mod Examples
pub mod Items
pub mod Kept
pub mod Steps
pub mod Words

pub mod Config
pub mod Draws
pub mod Examples

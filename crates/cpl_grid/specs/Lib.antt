pub mod Blocks
pub mod Examples
pub mod Grid
pub mod Owners
pub mod Parts

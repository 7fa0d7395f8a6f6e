pub mod Aims
pub mod Examples
pub mod Frames
pub mod Laws
pub mod Rings
pub mod Totals

pub mod Examples
pub mod Faults
pub mod Held
pub mod Plans
pub mod Turns

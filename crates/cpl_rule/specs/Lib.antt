pub mod Assigned
pub mod Demands
pub mod Examples
pub mod Inputs
pub mod Moments
pub mod Numbered
pub mod Swept

pub mod Dict
pub mod Examples
pub mod Kept
pub mod Numbers

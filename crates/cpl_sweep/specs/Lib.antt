pub mod Examples
pub mod Kernels
pub mod Operators
pub mod Places
pub mod Rows
pub mod Strips

pub mod DateOrder
mod JiffDays
pub mod Months
pub mod PartsFacts
mod TextsFacts

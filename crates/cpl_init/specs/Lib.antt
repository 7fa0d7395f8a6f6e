pub mod Examples
pub mod Gives
pub mod Orders
pub mod Rounds
pub mod Waiting

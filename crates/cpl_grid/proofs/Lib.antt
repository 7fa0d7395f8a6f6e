mod BlockFacts
pub mod BoxFacts
mod GridFacts
mod OwnerFacts
mod PartFacts
pub mod RangeFacts
mod TotalFacts

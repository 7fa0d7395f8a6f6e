pub mod PartsFacts
pub mod LinesFacts

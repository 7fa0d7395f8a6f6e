pub mod CallsFacts
pub mod ExamplesFacts
pub mod NamesFacts
pub mod RunsFacts

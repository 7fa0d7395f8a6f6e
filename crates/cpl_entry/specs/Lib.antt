pub mod Answers
pub mod Books
pub mod Entries
pub mod Examples
pub mod Kept
pub mod Views

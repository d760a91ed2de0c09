pub mod After
pub mod Cards
pub mod Facts

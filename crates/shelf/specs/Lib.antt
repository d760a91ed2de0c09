pub mod Book
pub mod Shelf
pub mod Keeps
pub mod internal

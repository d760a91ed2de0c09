pub mod Question
pub mod internal

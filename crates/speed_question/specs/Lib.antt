pub mod Question
pub mod Grounds
pub mod internal

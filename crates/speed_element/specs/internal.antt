-- What the code needs and no promise names.
pub mod Elements
pub mod Reading
pub mod Passing

-- What the code needs and no promise names.
pub mod lower
pub mod size

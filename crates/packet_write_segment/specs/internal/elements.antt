-- What the code of elements needs and no promise names.
pub mod Writing

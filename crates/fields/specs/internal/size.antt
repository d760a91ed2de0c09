-- What the code of size needs and no promise names.
pub mod Counts

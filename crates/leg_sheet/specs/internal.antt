-- What the code needs and no promise names.
pub mod Asking

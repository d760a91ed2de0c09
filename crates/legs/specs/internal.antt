-- What the code and the laws need and no promise names.
pub mod Passing
pub mod Lowered

-- What the code of lower needs and no promise names.
pub mod Lowered

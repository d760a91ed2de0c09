-- What the code of write needs and no promise names.
pub mod Filling

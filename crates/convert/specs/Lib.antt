pub mod Convert
pub mod internal

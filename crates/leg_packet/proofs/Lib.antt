pub mod Framed
pub mod Parts

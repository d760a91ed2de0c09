-- Laws of the module `point_bytes`.
pub mod Values

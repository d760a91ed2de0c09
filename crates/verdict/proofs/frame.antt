-- Laws of the module `frame`.
pub mod Framing

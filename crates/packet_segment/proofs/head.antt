-- Laws of the module `head`.
pub mod Places

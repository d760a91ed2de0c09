-- Laws of the module `accepted`.
pub mod Groups

-- Laws of the module `moves`.
pub mod Moving

-- Definitions of the module `journey`.
pub mod Journey

pub mod Judged
pub mod Kind
pub mod Kinds
pub mod Refusals
pub mod Tables
pub mod internal
pub mod journey

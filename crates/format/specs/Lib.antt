pub mod Conforming
pub mod Format
pub mod Grounds
pub mod Media
pub mod internal

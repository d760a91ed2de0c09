pub mod Legs
pub mod Standing
pub mod Restricted
pub mod Holding
pub mod Travelled
pub mod Grounds
pub mod Faster
pub mod internal

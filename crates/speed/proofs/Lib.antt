pub mod Laws
pub mod Lowering
pub mod Runs
pub mod Standing
pub mod Faster
pub mod Raised
pub mod Bounds
pub mod Desk

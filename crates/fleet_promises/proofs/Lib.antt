pub mod Lowest
pub mod Board
pub mod Faster
pub mod Moved
pub mod Reached

-- Laws of the module `segment`.
pub mod Tree
pub mod Framing
pub mod Ends
pub mod Reached
pub mod Higher
pub mod Desk
pub mod Grounds
pub mod Refusals
pub mod Parts
pub mod Changes

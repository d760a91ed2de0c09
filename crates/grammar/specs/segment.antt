-- Definitions of the module `segment`.
pub mod Segment
pub mod Frame
pub mod Judgement
pub mod Grounds
pub mod Desk
pub mod Ends

pub mod Signs
pub mod Standing
pub mod Reading
pub mod Ends

pub mod First
pub mod Starts
pub mod Kept
pub mod Places
pub mod Checking
pub mod Desk

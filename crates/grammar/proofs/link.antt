-- Laws of the module `link`.
pub mod Trees
pub mod Values
pub mod Grounds
pub mod Sheets
pub mod Ends
pub mod Segments
pub mod Places

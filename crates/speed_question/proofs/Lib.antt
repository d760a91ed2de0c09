pub mod Asked
pub mod Answering
pub mod Judged
pub mod Runs
pub mod Values
pub mod Lent
pub mod Questions

pub mod Verdicts
pub mod Framed

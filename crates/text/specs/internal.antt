-- Used by contracts of the code; no promise names these.
pub mod Writers
pub mod lines
pub mod sheet

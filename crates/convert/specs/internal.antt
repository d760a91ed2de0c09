-- Used by contracts of the code; no promise names these.
pub mod Writers

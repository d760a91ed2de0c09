-- Used by contracts of the module sheet; no promise names these.
pub mod Numbers

-- Used by contracts of the module lines; no promise names these.
pub mod Changes

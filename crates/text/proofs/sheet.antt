-- The laws of the module sheet.
pub mod Reading

-- The laws of the module lines.
pub mod Laying

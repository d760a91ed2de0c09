-- The laws of the module desk.
pub mod Desk

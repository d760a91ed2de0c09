-- The definitions of the module desk.
pub mod Desk

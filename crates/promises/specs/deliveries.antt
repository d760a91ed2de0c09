-- The definitions of the module deliveries.
pub mod Deliveries
pub mod Refused
pub mod Calls

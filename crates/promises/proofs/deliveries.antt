-- The laws of the module deliveries.
pub mod Verdicts
pub mod Completed
pub mod Asked
pub mod Calls
pub mod Deliveries

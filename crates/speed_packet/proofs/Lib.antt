pub mod Fields
pub mod Headed

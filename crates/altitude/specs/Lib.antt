pub mod Altitude

pub mod Timing
pub mod Lists
pub mod Journeys

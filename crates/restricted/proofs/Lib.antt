pub mod Journeys
pub mod Lent
pub mod Travelling
pub mod Answers

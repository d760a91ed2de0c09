-- What the code needs and no promise names.
pub mod Travelling
pub mod Travelled

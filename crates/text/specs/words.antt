-- The definitions of the module words.
pub mod Words

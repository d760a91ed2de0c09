-- Definitions that contracts of `numbered` use; no promise names them.
pub mod Judging

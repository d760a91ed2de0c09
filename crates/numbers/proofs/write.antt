-- Laws of the module `write`.
mod Writing

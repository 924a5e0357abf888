-- Laws of narrowing that belong to no one function.
mod Narrowing

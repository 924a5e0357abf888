-- Laws of the entries that are refused. Assumes nothing.
pub mod Entries

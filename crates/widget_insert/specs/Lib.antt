pub mod Numbers
pub mod Insert

pub mod Whole
mod Absent

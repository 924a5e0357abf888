-- What the functions of src/ need of the events' words.
pub mod Rows
pub mod Back

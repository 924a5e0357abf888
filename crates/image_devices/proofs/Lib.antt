-- What the functions of src/ need of the devices' words.
pub mod Rows
pub mod Back

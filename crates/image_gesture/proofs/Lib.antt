-- What the functions of src/ need of a gesture's words.
pub mod Parts
pub mod Back

-- Laws of the events that zoom and rotation do not read. Assumes nothing.
pub mod Idle

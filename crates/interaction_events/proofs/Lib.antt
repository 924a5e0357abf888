-- Laws of the walk through a pass's events. Assumes nothing.
pub mod Looked
pub mod Walk

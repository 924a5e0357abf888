pub mod Looked
pub mod Dragged

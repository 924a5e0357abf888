pub mod Form
pub mod Placed
pub mod Fresh

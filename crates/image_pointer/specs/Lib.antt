pub mod Place
pub mod Press

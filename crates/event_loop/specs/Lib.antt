pub mod Count
pub mod Shaped
pub mod Lists
pub mod Loop

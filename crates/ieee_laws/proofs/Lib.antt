-- Narrowing and the root give the nearest value of the format, and they, sums, products and differences keep the order. The root of an f32's square in f64 is the f32. Other crates may cite those marked pub.
mod Units
pub mod RoundOrder
mod RootOrder
mod Kept
mod Overflow
pub mod NearestNarrow
pub mod NearestRoot
pub mod Order
pub mod Exact
pub mod Monotone
pub mod Differences
pub mod Squares

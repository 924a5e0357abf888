pub mod Put
pub mod Report

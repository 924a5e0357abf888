pub mod Survey
pub mod Laws

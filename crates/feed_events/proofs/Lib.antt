-- The laws of specs/Events.
pub mod Events

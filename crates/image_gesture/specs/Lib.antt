pub mod Gesture

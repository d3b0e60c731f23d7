pub mod Kept
pub mod Slots

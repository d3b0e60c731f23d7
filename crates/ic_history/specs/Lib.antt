pub mod Limits
pub mod Noted
pub mod Notes
pub mod Kept
pub mod Changed
pub mod Histories

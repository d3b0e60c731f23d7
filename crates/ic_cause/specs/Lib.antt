pub mod Journals
pub mod Ranks
pub mod Makers
pub mod Places
pub mod Naming
pub mod Shown

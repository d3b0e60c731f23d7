pub mod Starts
pub mod Links
pub mod Texts

pub mod Workers
pub mod Hands
pub mod Firings
pub mod Sweeps
pub mod Faults

pub mod Orders
pub mod Links
pub mod Trails
pub mod FarEnds
pub mod Rings

pub mod Decisions
pub mod StartSpots
pub mod LinkFacts
pub mod TextFacts
pub mod SameStarts

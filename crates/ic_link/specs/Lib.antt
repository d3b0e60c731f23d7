pub mod Links
pub mod AtSpots
pub mod Made

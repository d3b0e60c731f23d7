pub mod LookUps
pub mod Records
pub mod OwnSlots
pub mod FoundSlots
pub mod Lawful
pub mod NoStrays
pub mod OwnRooms
pub mod Turned

pub mod EndSlots
pub mod PortRecord
pub mod Shapes
pub mod Packed
pub mod Slots
pub mod Principals
pub mod Ports

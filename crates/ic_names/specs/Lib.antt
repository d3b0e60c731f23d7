pub mod Keys
pub mod Blocks
pub mod DigitTexts
pub mod Tables
pub mod Rows
pub mod Known
pub mod Queues
pub mod Sifting

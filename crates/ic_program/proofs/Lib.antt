pub mod GivenFiles
pub mod GivenFlag
pub mod GivenNumbers
pub mod RunFacts
pub mod RunInputs

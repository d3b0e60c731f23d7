pub mod CommandLine
pub mod Statuses
pub mod Runs
pub use Rattle.clap.specs.Words
pub use Rattle.ic_command.specs.Faults
pub use Rattle.ic_session.specs.InputLines
pub use Rattle.ic_session.specs.Sessions

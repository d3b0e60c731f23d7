pub mod NotedLines
pub mod PairNotes
pub mod ChangedLines
pub mod FirstElements

pub mod Backs
mod CanonicalOrders
pub mod FirableEvents
pub mod FiredInTurn
pub mod FreeOrders
mod HistoryLimits
pub mod MarkedBenches
pub mod MarkedEvents
mod NextUndone
mod PlacedEvents
pub mod StayedBenches
mod UndoneOneMore
pub mod Unwinds
pub mod WaysBack
pub mod ChosenLists
pub mod ChosenOrders
pub mod Places
pub mod RestingCauses
mod RestingLines
mod RestingReached
pub mod WithinSets
pub mod LeastInTurn
mod FreeToUndo
mod ComingEvents
mod TakenBack
pub mod PairTests
mod MissingNames
mod ReadyPairs
mod Obstacles
mod Absorbed
mod AllUndone
mod TurnsTaken
pub mod SameHistories
mod StoodSince
mod RepeatsDropped
mod LedPlaces
mod KeptEvents
mod PlacedMarks
mod OutsideOrders
mod MissingOrders

pub mod RecordWrites
pub mod Left
pub mod JoinedRecords
pub mod PartedRecords
pub mod PartedEnds
pub mod Takes
pub mod Present
pub mod EventCells
pub mod StartCells
pub mod SlottedRows
pub mod FewLinks
pub mod Grown
pub mod PortWrites
pub mod RowWrites
pub mod SameRecords
pub mod Unnamed
pub mod OwnSlots
pub mod RecordWalks
pub mod WalksBeyond
pub mod NamedLinks
pub mod PathMakers
pub mod SameSlots
pub mod EndReads
pub mod GivenEnds
pub mod HeldEnds
pub mod ShownLinks
pub mod CutLinks
pub mod PartSlots
pub mod AddedLinks
pub mod TakenLinks
pub mod ShownSame
pub mod RingLabels
pub mod KeptLabels
pub mod MarkedSpots
pub mod PartedMarks
pub mod PathLabels
pub mod Tips
pub mod Renamed
pub mod PartedLabels
pub mod JoinedLabels
pub mod SplitSlots
pub mod AddedLabels
pub mod EachSlot
pub mod FourSlots
pub mod Differing
pub mod Decided
pub mod TouchedSpots
pub mod IdleSpots
pub mod JoinedSlots
pub mod WholePaths
pub mod GivenUpPaths
pub mod GivenUpTips
pub mod TakenPaths
pub mod TakenTips
pub mod LooseTakes
mod ClearedEvents
mod JoinedStarts
mod ClearedRows
mod StrippedRecords
mod SweptRecords
pub mod FilledEvents
pub mod EnteredEvents
pub mod GivenRooms
pub mod JoinedMade
pub mod MadeAtOnce
pub mod RunWalks
mod MadeRooms

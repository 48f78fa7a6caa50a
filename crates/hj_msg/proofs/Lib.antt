pub mod AllMet
mod ArrivalOrder
pub mod ComesOut
mod CoreTurns
mod Counts
mod CrossingLemmas
mod CrossingPlace
mod Directions
pub mod Emitting
mod Ends
mod ExampleLemmas
mod Expiries
pub mod Feeding
mod Fronts
pub mod Gathering
pub mod Growing
pub mod Joined
mod Latches
mod ListedOnce
pub mod Marks
pub mod MarksOnce
mod MeetingExampleLemmas
mod MeetingPlaces
pub mod Members
pub mod MetOnce
mod Moments
mod NoRunLemmas
pub mod NonFalling
pub mod Numbered
pub mod OnlyMatches
mod Orders
mod Origins
mod Ports
pub mod Prompt
pub mod RankedLists
mod Reports
mod RowBeforeExpiry
mod Rows
mod Settling
pub mod Sides
pub mod Sorting
mod States
mod Stores
mod TurnPuts
mod Waits
pub mod Windows
pub mod WithinPunctuation

mod GivenLemmas
mod EndLemmas
mod Pages
mod Operations
mod Rules
pub mod ParamLemmas
mod ListedEntries
pub mod Exact
pub mod Closed
mod ListingLemmas
mod Sums
mod Universe
mod Named
mod Counts
mod Fits
mod TableBounds
mod Joins
pub mod Bounded
mod Examples
mod PlaceLemmas
mod NumberLemmas
mod RowLemmas
mod TableLaws
mod Extracted

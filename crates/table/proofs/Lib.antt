pub mod CellLaws
pub mod RowLaws
pub mod Depth
pub mod Cuts
pub mod Broken
pub mod KeptSizes
pub mod Packing
mod Marking
pub mod CodeList
pub mod CodeCount
pub mod Between
pub mod Marks
pub mod TextLaws
pub mod LinesLaws
pub mod MappingLaws
pub mod MappingCases
pub mod Looks
mod Halving
mod StoredLaws
mod EntryTests
mod Entries
mod IndexOrder
mod Sorted
mod TestLoops
mod Places
mod Finding
pub mod Inserted
mod StoreLaws
mod Taken
pub mod Ranks
mod LineLaws
pub mod StoredLine
mod LineClashes
pub mod FormLines
mod TestParts
pub mod ReadBack
mod Neighbours
mod NumbersBack
mod ReadForm
pub mod FormTested
pub mod ValidLaws
pub mod RowText
mod OneMore
pub mod HeaderLaws
pub mod KeyLaws
pub mod HeaderCases
pub mod Tokens
pub mod WordLines
pub mod SeriesRead
pub mod MappingRead
pub mod RowRead
pub mod RowWritten
pub mod RowSays
pub mod RowEntries
pub mod LinesRead
pub mod HeaderRead
pub mod ValueRead
pub mod KeysHeld
pub mod HeaderText
pub mod FormsRead
pub mod LowestLaws
pub mod Judged
pub mod InGrammar
pub mod Accepted
pub mod TextRead
pub mod NumbersRead
pub mod TextCases
pub mod FirstLine
pub mod Counts
pub mod Leaves
pub mod InMemory
pub mod CodePositions
pub mod GivenText
pub mod HeldMemory
pub mod TableParts
pub mod LoadedForm
pub mod LineSteps
pub mod HeaderSteps
pub mod MappingSteps
pub mod RunSteps
mod FoundLines
pub mod LookupLaws

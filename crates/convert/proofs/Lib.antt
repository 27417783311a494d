pub mod Runs
pub mod Whole
pub mod PlainSteps
pub mod Skipping
pub mod PartsOfFrames
pub mod Steps
pub mod Text
pub mod Schemes
pub mod SkippedRuns
pub mod PieceRuns
pub mod JoinedPieces
pub mod KeptForms
pub mod PieceSteps
pub mod CompleteCodes
pub mod ReadsBack
pub mod FourEach
pub mod PieceStops
pub mod PieceKept
mod PieceStates
pub mod PieceCloses
mod PieceTurns
mod Settling
pub mod PieceDue
pub mod PieceGuard
mod Marked
mod PieceTests
pub mod ThereAndBack
pub mod RoundTrips
pub mod SchemeText
pub mod CodeBytes
pub mod LookUps
mod Choices
pub mod SameLines
pub mod LoadedText
pub mod PieceCalls
pub mod PieceLengths
mod PieceCases
pub mod TableSteps
mod Ways
mod MarkedOutput
mod Tested

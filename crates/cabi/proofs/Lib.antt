pub mod Records
pub mod Kept
pub mod Conversions
pub mod Audits
pub mod PieceAnswers

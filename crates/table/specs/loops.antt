-- What only loops and proofs need; nothing that is promised speaks of it.
pub mod Backed
pub mod Common
pub mod LeadMarks
pub mod Marks
pub mod Search
pub mod Ranges
pub mod Coded
pub mod Progress

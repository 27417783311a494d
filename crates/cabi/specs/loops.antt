-- What only inner functions and proofs need; nothing that is promised speaks of it.
pub mod Asked

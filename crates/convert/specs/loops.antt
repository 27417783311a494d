-- What only loops and proofs need; nothing that is promised speaks of it.
pub mod Inner
pub mod Carried
pub mod Laws
pub mod Ways

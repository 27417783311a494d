-- What only loops and proofs need.
pub mod PagedCalls

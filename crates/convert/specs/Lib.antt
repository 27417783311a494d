pub mod Run
pub mod Step
pub mod Convert
pub mod Pieces
pub mod PieceClaims
pub mod Claims
pub mod loops

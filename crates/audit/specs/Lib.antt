pub mod Audit
pub mod Demand
pub mod Cases
pub mod loops

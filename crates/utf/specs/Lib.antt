pub mod Utf8
pub mod WellFormed
pub mod Utf32
pub mod Scheme

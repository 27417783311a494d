pub mod Exported
pub mod loops

pub mod Called
pub mod Functions
pub mod Calls
pub mod Words
pub mod Program
pub mod Promises

pub mod Lines
pub mod Output
pub mod Stream
pub mod Report
pub mod Pages
pub mod loops

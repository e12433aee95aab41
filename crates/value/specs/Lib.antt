pub mod Value
pub mod code

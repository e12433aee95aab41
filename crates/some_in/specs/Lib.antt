pub mod SomeIn
pub mod code

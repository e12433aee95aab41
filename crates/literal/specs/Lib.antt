pub mod Literal
pub mod Order
pub mod Text
pub mod Reading
pub mod Laws
pub mod code

pub mod Reading
pub mod Six

pub mod Seen
pub mod Learning
pub mod Previews

pub mod Miss
pub mod Answer
pub mod Operations
pub mod Promise
pub mod code

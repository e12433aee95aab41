pub mod Rules
pub mod Fault
pub mod Promise
pub mod Trial
pub mod code

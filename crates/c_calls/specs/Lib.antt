pub mod Given
pub mod Calls
pub mod Bodies
pub mod NameCall
pub mod Tolerating
pub mod Examples
pub mod Faults
pub mod Misses

pub mod Apart
pub mod Grown
pub mod Bodies
pub mod Staying
pub mod Trials

pub mod Answer
pub mod ComputedKeys
pub mod Report
pub mod code

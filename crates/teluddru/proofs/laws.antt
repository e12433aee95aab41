-- The laws, and what walks by hand share.
pub mod Cells
pub mod Locals
pub mod Params
pub mod Copying
pub mod Limits
pub mod AllNames
pub mod LocalArray
pub mod Trials
pub mod Passing
pub mod Demand
pub mod AddedNames

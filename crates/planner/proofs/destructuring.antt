pub mod NodeKinds
pub mod Walking
pub mod Counting
pub mod FirstPass
pub mod SecondPass
pub mod Steps
pub mod Tracked

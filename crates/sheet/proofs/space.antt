pub mod PlanListing
pub mod Scopes
pub mod SpaceTests

-- What is proved of plans, and of the operations that answer with one.
pub mod Sizes
pub mod Binders
pub mod PlanLaws
pub mod States
pub mod SamePlan
pub mod Answers
pub mod Operations
pub mod Names
pub mod Mentions
pub mod Validating
pub mod ShortPlans
pub mod ShortOutcomes

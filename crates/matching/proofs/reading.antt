-- What entries say: the plan that is read from them, and where the children of an entry stand.
pub mod WrittenOrder
pub mod ReadBack
pub mod PlanTold
pub mod Chains
pub mod Tails
pub mod LinkedPlans
pub mod LinkedFields

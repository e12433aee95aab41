-- What the functions of the code cite.
pub mod SideChecks
pub mod classes
pub mod sizes
pub mod graph
pub mod writing

-- What the tests and loops of the check say.
pub mod Bools
pub mod Scan
pub mod Fresh
pub mod Bytes
pub mod Clauses
pub mod NameOrder
pub mod Answers

pub mod Bits
pub mod Sets
pub mod Words
pub mod Small
pub mod Marks
pub mod Cases
pub mod Laws
pub mod Agreeing

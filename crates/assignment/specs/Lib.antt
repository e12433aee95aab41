pub mod Assignment
pub mod Pairs
pub mod PairsPromise
pub mod PairsDemand
pub mod code

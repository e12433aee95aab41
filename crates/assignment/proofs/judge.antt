pub mod PairShapes
pub mod Judgements

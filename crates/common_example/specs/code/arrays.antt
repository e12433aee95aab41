-- The arrays of the graph: how they are filled.
pub mod NodePlaces
pub mod Likes
pub mod Distinct
pub mod KeyOrder
pub mod Arrays
pub mod Unifying

pub mod Branches
pub mod Stops
pub mod Laws

pub mod Products
pub mod Duals
pub mod Laws

pub mod Sums
pub mod Saturation
pub mod Numbers
pub mod Chains
pub mod Laws

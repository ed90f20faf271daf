pub mod Parallel
pub mod Bytes
pub mod Packing
pub mod Saturation
pub mod Laws

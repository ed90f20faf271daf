pub mod Step
pub mod Run
pub mod Promises
pub mod Laws

pub mod State
pub mod Valid
pub mod Laws

pub mod Single
pub mod Extra
pub mod Laws

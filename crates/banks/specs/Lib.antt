pub mod Banks
pub mod Laws

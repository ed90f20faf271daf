pub mod Text
pub mod Image

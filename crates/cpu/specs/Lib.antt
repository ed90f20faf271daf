pub mod With
pub mod Answers
pub mod Outcomes
pub mod Laws

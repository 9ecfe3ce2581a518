pub mod Refusals
pub mod Calls
pub mod Story
pub mod Answers
pub mod Made
pub mod Promise

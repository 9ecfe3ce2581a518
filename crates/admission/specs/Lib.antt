pub mod Keeps
pub mod Faults
pub mod Verdict
pub mod Answers
pub mod Admission
pub mod Planned
pub mod Statement

pub mod Algebra
pub mod Cents
pub mod CentsLaws
pub mod JoinedLaws

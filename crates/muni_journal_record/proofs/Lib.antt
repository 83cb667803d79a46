pub mod BodyLaws
pub mod CallLemmas
pub mod IssueLaws
pub mod PieceLaws
pub mod VersionLaws
pub mod WordLaws

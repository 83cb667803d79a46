pub mod BodyLemmas
pub mod CallLemmas
pub mod LeftOutLemmas
pub mod MemberLemmas
pub mod StatedLemmas

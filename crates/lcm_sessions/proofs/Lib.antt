mod HeardLemmas
mod StepsLemmas
pub mod TalkLemmas
mod ValidLemmas
mod VerdictLemmas

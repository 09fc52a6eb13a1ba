pub mod ByteLemmas
pub mod ContentLemmas
pub mod HeadLemmas
pub mod WindowLemmas

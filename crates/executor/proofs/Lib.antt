mod AskLemmas
pub mod ChainLemmas
pub mod CommitLemmas
pub mod FaultLemmas
pub mod JudgeLemmas
pub mod LawLemmas
pub mod ManagerLemmas
pub mod RoomLemmas
pub mod SerialLemmas
mod SpellingLemmas
pub mod WorkLemmas
mod ReadingLemmas

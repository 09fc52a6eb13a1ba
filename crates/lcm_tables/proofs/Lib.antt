mod AskLaws
mod FoundLaws
mod LiveLaws
mod NoticeLaws

mod MatchLemmas
mod ShapeLemmas
mod WordLemmas
